-- Lemmas in three folders; beside them the folders of the functions, whose files cite them.
--
-- OnTrees cites nothing of the others but Linked (lists of slots) and Threaded: TreeLemmas and Ways are about one tree,
-- TreesOfLemmas and Places about the trees and the entries; Planting, Grafting, Relabeling, Clearing and Pruning stand upon
-- these, one for each change, and Uprooting upon the last two. Walk is what a look-up stands upon.
-- OnEntries cites OnTrees: SoundLemmas stands upon Linked and Threaded; Entering, Leaving, Dropping and Renewing upon
-- SoundLemmas; Admitting and Replacing join these with the trees' changes, and Admissions tells what came of it.
-- OnCalls cites OnEntries alone: Tabled and SegmentsLemmas turn slots into tables; CallLemmas, Steps and WorkLemmas are about
-- any call, Answering and StandingLemmas about each; ListingLemmas, Counting and Knowing about what is told without a call.
pub mod OnTrees
pub mod OnEntries
pub mod OnCalls
