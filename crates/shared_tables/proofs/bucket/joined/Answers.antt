use Rattle.std.proofs.Common.{rules, ◌≡◌, ◌+◌, ◌*◌, ◌∷◌, [], ◌∙◌, refl, ap, arith}
use Rattle.shared_tables.specs.Bucket.{key_of, vid_in, mac_in}
use Rattle.shared_tables.proofs.OnTrees.Keys.{vid_in-key, mac_in-key, six_text}
use Rattle.shared_tables.proofs.bucket.joined.Goals as goal

pub returns : goal.returns
returns x =
    let r = x.ranges in let g = x.args in
    let mac = g.a ∷ g.b ∷ g.c ∷ g.d ∷ g.e ∷ g.f ∷ [] in
    let text = six_text g.a g.b g.c g.d g.e g.f r.a.fits r.b.fits r.c.fits r.d.fits r.e.fits r.f.fits in
    let is : x.from.result * 281474976710656 + x.from-upper.result * 65536 + x.from-lower.result ≡ key_of g.vid mac = search rules in
    record {
      value = is;
      vid = ap vid_in is ∙ vid_in-key g.vid mac r.vid.fits refl text;
      mac = ap mac_in is ∙ mac_in-key g.vid mac r.vid.fits refl text;
      fits = λ few. omega (arith, few, is, r.a.fits, r.b.fits, r.c.fits, r.d.fits, r.e.fits, r.f.fits);
    }
