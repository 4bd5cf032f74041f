-- What some lines mean, computed.
use Rattle.std.proofs.Common.{◌≡◌, refl, codes, [], ◌∷◌, Some, None, false, true}
use Rattle.clap.specs.Words.{takes}
use Rattle.clap.proofs.OnLiterals.{clap_on_literals}
use Rattle.command_line.specs.App.{tep_app}
use Rattle.command_line.specs.Meaning.{check, compare, compare_worked, digest, explain, fabric, merge, migrate, report, run, sample, split, words_meant}

no_words : words_meant (codes "tep" ∷ []) ≡ Some sample
unfolding clap_on_literals
no_words = refl

a_check : words_meant (codes "tep" ∷ codes "check" ∷ codes "--settings=s" ∷ codes "--changes" ∷ codes "c" ∷ [])
    ≡ Some (check (codes "s") (Some (codes "c")) None [] false)
unfolding clap_on_literals
a_check = refl

a_check_of_captures : words_meant (codes "tep" ∷ codes "check" ∷ codes "-s" ∷ codes "s" ∷ codes "-u" ∷ codes "u" ∷ codes "p1" ∷ codes "p2" ∷ [])
    ≡ Some (check (codes "s") None (Some (codes "u")) (codes "p1" ∷ codes "p2" ∷ []) false)
unfolding clap_on_literals
a_check_of_captures = refl

a_run : words_meant (codes "tep" ∷ codes "run" ∷ codes "--settings" ∷ codes "s" ∷ codes "--underlay" ∷ codes "u" ∷ codes "--out" ∷ codes "d" ∷ codes "p1" ∷ codes "p2" ∷ [])
    ≡ Some (run (codes "s") None (codes "u") (Some (codes "d")) (codes "p1" ∷ codes "p2" ∷ []) false None [] false false None None false None None false false None)
unfolding clap_on_literals
a_run = refl

a_run_that_tells : words_meant (codes "tep" ∷ codes "run" ∷ codes "-ss" ∷ codes "-uu" ∷ codes "-od" ∷ codes "p1" ∷ codes "--tables" ∷ codes "--tables-at=70" ∷ codes "--why" ∷ codes "7" ∷ codes "--why" ∷ codes "u:1" ∷ [])
    ≡ Some (run (codes "s") None (codes "u") (Some (codes "d")) (codes "p1" ∷ []) true (Some 70) (codes "7" ∷ codes "u:1" ∷ []) false false None None false None None false false None)
unfolding clap_on_literals
a_run_that_tells = refl

a_run_that_counts : words_meant (codes "tep" ∷ codes "run" ∷ codes "-ss" ∷ codes "-uu" ∷ codes "-od" ∷ codes "--summary" ∷ codes "p1" ∷ [])
    ≡ Some (run (codes "s") None (codes "u") (Some (codes "d")) (codes "p1" ∷ []) false None [] true false None None false None None false false None)
unfolding clap_on_literals
a_run_that_counts = refl

a_part_of_a_run : words_meant (codes "tep" ∷ codes "run" ∷ codes "-ss" ∷ codes "-uu" ∷ codes "-od" ∷ codes "--segments" ∷ codes "1-3,none" ∷ codes "p1" ∷ [])
    ≡ Some (run (codes "s") None (codes "u") (Some (codes "d")) (codes "p1" ∷ []) false None [] false false (Some (codes "1-3,none")) None false None None false false None)
unfolding clap_on_literals
a_part_of_a_run = refl

a_part_with_digests : words_meant (codes "tep" ∷ codes "run" ∷ codes "-ss" ∷ codes "-uu" ∷ codes "-od" ∷ codes "--digests=f" ∷ codes "--segments" ∷ codes "7" ∷ codes "p1" ∷ [])
    ≡ Some (run (codes "s") None (codes "u") (Some (codes "d")) (codes "p1" ∷ []) false None [] false false (Some (codes "7")) (Some (codes "f")) false None None false false None)
unfolding clap_on_literals
a_part_with_digests = refl

a_run_that_only_tells : words_meant (codes "tep" ∷ codes "run" ∷ codes "-ss" ∷ codes "-uu" ∷ codes "--summary" ∷ codes "p1" ∷ [])
    ≡ Some (run (codes "s") None (codes "u") None (codes "p1" ∷ []) false None [] true false None None false None None false false None)
unfolding clap_on_literals
a_run_that_only_tells = refl

a_run_on_both_directions : words_meant (codes "tep" ∷ codes "run" ∷ codes "-ss" ∷ codes "-uu" ∷ codes "-od" ∷ codes "p1" ∷ codes "--both" ∷ codes "--within" ∷ codes "2ms" ∷ [])
    ≡ Some (run (codes "s") None (codes "u") (Some (codes "d")) (codes "p1" ∷ []) false None [] false false None None true (Some (codes "2ms")) None false false None)
unfolding clap_on_literals
a_run_on_both_directions = refl

a_run_with_a_view : words_meant (codes "tep" ∷ codes "run" ∷ codes "-ss" ∷ codes "-uu" ∷ codes "-od" ∷ codes "--pcapng" ∷ codes "v" ∷ codes "p1" ∷ [])
    ≡ Some (run (codes "s") None (codes "u") (Some (codes "d")) (codes "p1" ∷ []) false None [] false false None None false None None false false (Some (codes "v")))
unfolding clap_on_literals
a_run_with_a_view = refl

a_view_alone : words_meant (codes "tep" ∷ codes "run" ∷ codes "-ss" ∷ codes "-uu" ∷ codes "--pcapng=-" ∷ codes "p1" ∷ [])
    ≡ Some (run (codes "s") None (codes "u") None (codes "p1" ∷ []) false None [] false false None None false None None false false (Some (codes "-")))
unfolding clap_on_literals
a_view_alone = refl

a_list_alone : words_meant (codes "tep" ∷ codes "run" ∷ codes "-ss" ∷ codes "-uu" ∷ codes "--both" ∷ codes "--list" ∷ codes "l" ∷ codes "p1" ∷ [])
    ≡ Some (run (codes "s") None (codes "u") None (codes "p1" ∷ []) false None [] false false None None true None (Some (codes "l")) false false None)
unfolding clap_on_literals
a_list_alone = refl

a_run_that_neither_tells_nor_writes_has_no_meaning : words_meant (codes "tep" ∷ codes "run" ∷ codes "-ss" ∷ codes "-uu" ∷ codes "p1" ∷ []) ≡ None
unfolding clap_on_literals
a_run_that_neither_tells_nor_writes_has_no_meaning = refl

a_run_without_ports_is_refused : takes tep_app (codes "tep" ∷ codes "run" ∷ codes "--settings" ∷ codes "s" ∷ codes "--underlay" ∷ codes "u" ∷ codes "--out" ∷ codes "d" ∷ []) ≡ false
unfolding clap_on_literals
a_run_without_ports_is_refused = refl

an_explanation : words_meant (codes "tep" ∷ codes "explain" ∷ codes "--settings" ∷ codes "s" ∷ codes "c" ∷ []) ≡ Some (explain (codes "s") 4 false (codes "c") false)
unfolding clap_on_literals
an_explanation = refl

an_explanation_of_three : words_meant (codes "tep" ∷ codes "explain" ∷ codes "--depth=3" ∷ codes "--values" ∷ codes "c" ∷ codes "--settings" ∷ codes "s" ∷ []) ≡ Some (explain (codes "s") 3 true (codes "c") false)
unfolding clap_on_literals
an_explanation_of_three = refl

a_depth_of_five_is_refused : takes tep_app (codes "tep" ∷ codes "explain" ∷ codes "--depth=5" ∷ codes "c" ∷ codes "--settings" ∷ codes "s" ∷ []) ≡ false
unfolding clap_on_literals
a_depth_of_five_is_refused = refl

a_migration : words_meant (codes "tep" ∷ codes "migrate" ∷ codes "-s" ∷ codes "s" ∷ []) ≡ Some (migrate (codes "s"))
unfolding clap_on_literals
a_migration = refl

some_digests : words_meant (codes "tep" ∷ codes "digest" ∷ codes "-u" ∷ codes "u" ∷ codes "p1" ∷ codes "p2" ∷ []) ≡ Some (digest (codes "u") (codes "p1" ∷ codes "p2" ∷ []))
unfolding clap_on_literals
some_digests = refl

a_merge : words_meant (codes "tep" ∷ codes "merge" ∷ codes "-o" ∷ codes "d" ∷ codes "s1" ∷ codes "s2" ∷ []) ≡ Some (merge (codes "d") (codes "s1" ∷ codes "s2" ∷ []) false false false)
unfolding clap_on_literals
a_merge = refl

a_merge_that_counts : words_meant (codes "tep" ∷ codes "merge" ∷ codes "-od" ∷ codes "s1" ∷ codes "--summary" ∷ codes "s2" ∷ []) ≡ Some (merge (codes "d") (codes "s1" ∷ codes "s2" ∷ []) false true false)
unfolding clap_on_literals
a_merge_that_counts = refl

a_merge_that_tells_tables : words_meant (codes "tep" ∷ codes "merge" ∷ codes "--tables" ∷ codes "-od" ∷ codes "s1" ∷ []) ≡ Some (merge (codes "d") (codes "s1" ∷ []) true false false)
unfolding clap_on_literals
a_merge_that_tells_tables = refl

a_split : words_meant (codes "tep" ∷ codes "split" ∷ codes "-o" ∷ codes "d" ∷ codes "c" ∷ []) ≡ Some (split (codes "d") (codes "c"))
unfolding clap_on_literals
a_split = refl

a_split_of_two_is_refused : takes tep_app (codes "tep" ∷ codes "split" ∷ codes "-o" ∷ codes "d" ∷ codes "c1" ∷ codes "c2" ∷ []) ≡ false
unfolding clap_on_literals
a_split_of_two_is_refused = refl

a_comparison : words_meant (codes "tep" ∷ codes "compare" ∷ codes "a" ∷ codes "b" ∷ []) ≡ Some (compare (codes "a") (codes "b") None None false None false false)
unfolding clap_on_literals
a_comparison = refl

a_comparison_of_two_clocks : words_meant (codes "tep" ∷ codes "compare" ∷ codes "--within" ∷ codes "5ms" ∷ codes "a" ∷ codes "--shift=-2us" ∷ codes "b" ∷ [])
    ≡ Some (compare (codes "a") (codes "b") (Some (codes "5ms")) (Some (codes "-2us")) false None false false)
unfolding clap_on_literals
a_comparison_of_two_clocks = refl

a_comparison_without_what_no_bridge_forwards : words_meant (codes "tep" ∷ codes "compare" ∷ codes "--ignore" ∷ codes "reserved" ∷ codes "a" ∷ codes "b" ∷ [])
    ≡ Some (compare (codes "a") (codes "b") None None false None true false)
unfolding clap_on_literals
a_comparison_without_what_no_bridge_forwards = refl

a_comparison_without_anything_else_is_none : words_meant (codes "tep" ∷ codes "compare" ∷ codes "--ignore" ∷ codes "Reserved" ∷ codes "a" ∷ codes "b" ∷ []) ≡ None
unfolding clap_on_literals
a_comparison_without_anything_else_is_none = refl

a_comparison_of_one_is_none : words_meant (codes "tep" ∷ codes "compare" ∷ codes "a" ∷ []) ≡ None
unfolding clap_on_literals
a_comparison_of_one_is_none = refl

a_comparison_of_three_is_none : words_meant (codes "tep" ∷ codes "compare" ∷ codes "a" ∷ codes "b" ∷ codes "c" ∷ []) ≡ None
unfolding clap_on_literals
a_comparison_of_three_is_none = refl

a_comparison_of_nothing_is_refused : takes tep_app (codes "tep" ∷ codes "compare" ∷ []) ≡ false
unfolding clap_on_literals
a_comparison_of_nothing_is_refused = refl

what_a_run_wrote : words_meant (codes "tep" ∷ codes "compare" ∷ codes "--worked" ∷ codes "d" ∷ codes "-u" ∷ codes "u" ∷ codes "--within=1ms" ∷ codes "p1" ∷ codes "-" ∷ [])
    ≡ Some (compare_worked (codes "d") (codes "u") (codes "p1" ∷ codes "-" ∷ []) (Some (codes "1ms")) None None false false None false false)
unfolding clap_on_literals
what_a_run_wrote = refl

what_a_run_wrote_without_the_underlay_is_none : words_meant (codes "tep" ∷ codes "compare" ∷ codes "--worked=d" ∷ codes "p1" ∷ codes "p2" ∷ []) ≡ None
unfolding clap_on_literals
what_a_run_wrote_without_the_underlay_is_none = refl

the_underlay_of_no_run_is_none : words_meant (codes "tep" ∷ codes "compare" ∷ codes "--underlay" ∷ codes "u" ∷ codes "p1" ∷ codes "p2" ∷ []) ≡ None
unfolding clap_on_literals
the_underlay_of_no_run_is_none = refl

what_a_run_wrote_strictly : words_meant (codes "tep" ∷ codes "compare" ∷ codes "--worked=d" ∷ codes "-s" ∷ codes "s" ∷ codes "--strict" ∷ codes "-u" ∷ codes "u" ∷ codes "p1" ∷ [])
    ≡ Some (compare_worked (codes "d") (codes "u") (codes "p1" ∷ []) None None (Some (codes "s")) true false None false false)
unfolding clap_on_literals
what_a_run_wrote_strictly = refl

a_strict_comparison_of_two_is_none : words_meant (codes "tep" ∷ codes "compare" ∷ codes "--strict" ∷ codes "a" ∷ codes "b" ∷ []) ≡ None
unfolding clap_on_literals
a_strict_comparison_of_two_is_none = refl

settings_of_no_run_are_none : words_meant (codes "tep" ∷ codes "compare" ∷ codes "--settings=s" ∷ codes "a" ∷ codes "b" ∷ []) ≡ None
unfolding clap_on_literals
settings_of_no_run_are_none = refl

a_run_told_as_json : words_meant (codes "tep" ∷ codes "run" ∷ codes "-ss" ∷ codes "-uu" ∷ codes "-od" ∷ codes "--json" ∷ codes "p1" ∷ codes "--quiet" ∷ [])
    ≡ Some (run (codes "s") None (codes "u") (Some (codes "d")) (codes "p1" ∷ []) false None [] false false None None false None None true true None)
unfolding clap_on_literals
a_run_told_as_json = refl

an_explanation_told_as_json : words_meant (codes "tep" ∷ codes "explain" ∷ codes "-ss" ∷ codes "--json" ∷ codes "c" ∷ []) ≡ Some (explain (codes "s") 4 false (codes "c") true)
unfolding clap_on_literals
an_explanation_told_as_json = refl

a_report : words_meant (codes "tep" ∷ codes "report" ∷ codes "-o" ∷ codes "p" ∷ codes "d" ∷ []) ≡ Some (report (codes "d") (codes "p"))
unfolding clap_on_literals
a_report = refl

a_look_at_a_fabric : words_meant (codes "tep" ∷ codes "fabric" ∷ codes "check" ∷ codes "a" ∷ codes "b" ∷ [])
    ≡ Some (fabric (codes "a" ∷ codes "b" ∷ []))
unfolding clap_on_literals
a_look_at_a_fabric = refl

a_fabric_without_leaves_has_no_meaning : words_meant (codes "tep" ∷ codes "fabric" ∷ codes "check" ∷ []) ≡ None
unfolding clap_on_literals
a_fabric_without_leaves_has_no_meaning = refl
