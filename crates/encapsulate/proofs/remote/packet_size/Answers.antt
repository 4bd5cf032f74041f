use Rattle.std.proofs.Common.{arith}
use Rattle.encapsulate.proofs.remote.packet_size.Goals as goal

pub overflow_add-result : goal.overflow_add-result
overflow_add-result c = omega (arith, c.head_size.ensures.few)

pub overflow_add-result-2 : goal.overflow_add-result-2
overflow_add-result-2 c = omega (arith, c.head_size.ensures.few, c.in_default.ensures.fits)
