-- Words that were worked out by hand: the request that they make by the definitions, and whether the program takes
-- them.
use Rattle.std.proofs.Common.{◌≡◌, List, [], ◌∷◌, Bool, true, false, Option, Some, None, refl, codes}
use Rattle.clap.specs.{Words.Text, Walk.walked, Takes.walk_passes}
use Rattle.arachne_cli.specs.declared.command_line.Request.{Request, TheVariants.{Run, Serial}}
use Rattle.arachne_cli.specs.{declared.command_line.SerialRequest.TheVariants.{Eval, Check, Policy}, Orders.order_of}
use Rattle.arachne_cli.specs.CommandLine.{asked_by, is_taken, no_order_in, machine_command, run_command, run_alone, eval_command, check_command, policy_command, task_commands, program, number_of}
use Rattle.arachne_policy.specs.declared.orders.OrderKind.TheVariants.{Grant, Release}
use Rattle.arachne_lang.specs.Reading.{number_at}

-- the words behind the program's own name
abbrev words : List Text → List Text
words others = codes "arachne" ∷ others

-- the words ask for this, and the program takes them or not
record Asks (others : List Text) (asked : Option Request) (taken : Bool) : Type 0 where
  asked_for : asked_by (words others) ≡ asked
  is_taken_so : is_taken (words others) ≡ taken

no_words : Asks [] None false
unfolding asked_by is_taken machine_command run_command run_alone eval_command check_command policy_command task_commands program number_of walked walk_passes
no_words = record { asked_for = refl; is_taken_so = refl }

evaluation : Asks (codes "eval" ∷ []) (Some (Serial (Eval false))) true
unfolding asked_by is_taken machine_command run_command run_alone eval_command check_command policy_command task_commands program number_of walked walk_passes
evaluation = record { asked_for = refl; is_taken_so = refl }

evaluation_with_names : Asks (codes "eval" ∷ codes "--names" ∷ []) (Some (Serial (Eval true))) true
unfolding asked_by is_taken machine_command run_command run_alone eval_command check_command policy_command task_commands program number_of walked walk_passes
evaluation_with_names = record { asked_for = refl; is_taken_so = refl }

check_of_a_text : Asks (codes "check" ∷ []) (Some (Serial Check)) true
unfolding asked_by is_taken machine_command run_command run_alone eval_command check_command policy_command task_commands program number_of walked walk_passes
check_of_a_text = record { asked_for = refl; is_taken_so = refl }

check_has_no_names : is_taken (words (codes "check" ∷ codes "--names" ∷ [])) ≡ false
unfolding is_taken machine_command run_command run_alone eval_command check_command policy_command task_commands program walked walk_passes
check_has_no_names = refl

policy_by_default : Asks (codes "policy" ∷ []) (Some (Serial (Policy (record { up = 1500; hysteresis = 90; max = 16 })))) true
unfolding asked_by is_taken machine_command run_command run_alone eval_command check_command policy_command task_commands program number_of walked walk_passes
policy_by_default = record { asked_for = refl; is_taken_so = refl }

policy_of_no_core : Asks (codes "policy" ∷ codes "--max" ∷ codes "0" ∷ []) (Some (Serial (Policy (record { up = 1500; hysteresis = 90; max = 0 })))) true
unfolding asked_by is_taken machine_command run_command run_alone eval_command check_command policy_command task_commands program number_of walked walk_passes
policy_of_no_core = record { asked_for = refl; is_taken_so = refl }

policy_of_64_cores : Asks (codes "policy" ∷ codes "--max=64" ∷ []) (Some (Serial (Policy (record { up = 1500; hysteresis = 90; max = 64 })))) true
unfolding asked_by is_taken machine_command run_command run_alone eval_command check_command policy_command task_commands program number_of walked walk_passes
policy_of_64_cores = record { asked_for = refl; is_taken_so = refl }

policy_of_65_cores : Asks (codes "policy" ∷ codes "--max" ∷ codes "65" ∷ []) None false
unfolding asked_by is_taken machine_command run_command run_alone eval_command check_command policy_command task_commands program number_of walked walk_passes
policy_of_65_cores = record { asked_for = refl; is_taken_so = refl }

another_command : Asks (codes "walk" ∷ []) None false
unfolding asked_by is_taken machine_command run_command run_alone eval_command check_command policy_command task_commands program number_of walked walk_passes
another_command = record { asked_for = refl; is_taken_so = refl }

version : Asks (codes "--version" ∷ []) None false
unfolding asked_by is_taken machine_command run_command run_alone eval_command check_command policy_command task_commands program number_of walked walk_passes
version = record { asked_for = refl; is_taken_so = refl }

version_of_a_command : is_taken (words (codes "eval" ∷ codes "--version" ∷ [])) ≡ false
unfolding is_taken machine_command run_command run_alone eval_command check_command policy_command task_commands program walked walk_passes
version_of_a_command = refl

-- ---- runs

run_by_default : Asks (codes "run" ∷ []) (Some (Run (record { cores = 4; seed = 1; quantum = 100; slots = 56; names = false; orders = [] }))) true
unfolding asked_by is_taken machine_command run_command run_alone eval_command check_command policy_command task_commands program number_of walked walk_passes
run_by_default = record { asked_for = refl; is_taken_so = refl }

run_on_no_core : Asks (codes "run" ∷ codes "--cores" ∷ codes "0" ∷ codes "--quantum=0" ∷ codes "--seed" ∷ codes "18446744073709551615" ∷ [])
    (Some (Run (record { cores = 0; seed = 18446744073709551615; quantum = 0; slots = 56; names = false; orders = [] }))) true
unfolding asked_by is_taken machine_command run_command run_alone eval_command check_command policy_command task_commands program number_of walked walk_passes
run_on_no_core = record { asked_for = refl; is_taken_so = refl }

run_on_more_than_any : Asks (codes "run" ∷ codes "--cores" ∷ codes "18446744073709551616" ∷ []) None false
unfolding asked_by is_taken machine_command run_command run_alone eval_command check_command policy_command task_commands program number_of walked walk_passes
run_on_more_than_any = record { asked_for = refl; is_taken_so = refl }

-- orders before, between and behind the options
run_by_orders : Asks (codes "run" ∷ codes "0:release:1" ∷ codes "--cores" ∷ codes "4" ∷ codes "1:release:2" ∷ codes "--names" ∷ codes "2:grant:1" ∷ [])
    (Some (Run (record {
      cores = 4;
      seed = 1;
      quantum = 100;
      slots = 56;
      names = true;
      orders = record { after = 0; kind = Release; core = 1 } ∷ record { after = 1; kind = Release; core = 2 } ∷ record { after = 2; kind = Grant; core = 1 } ∷ [];
    }))) true
unfolding asked_by is_taken machine_command run_command run_alone eval_command check_command policy_command task_commands program number_of walked walk_passes order_of number_at
run_by_orders = record { asked_for = refl; is_taken_so = refl }

-- a word that is no order makes no request, and is reported by its index among the order words
word_that_is_no_order : Asks (codes "run" ∷ codes "--names" ∷ codes "0:grant:1" ∷ codes "0:take:1" ∷ codes "5" ∷ []) None true
unfolding asked_by is_taken machine_command run_command run_alone eval_command check_command policy_command task_commands program number_of walked walk_passes order_of number_at
word_that_is_no_order = record { asked_for = refl; is_taken_so = refl }

index_of_no_order : no_order_in (words (codes "run" ∷ codes "--names" ∷ codes "0:grant:1" ∷ codes "0:take:1" ∷ codes "5" ∷ [])) ≡ Some 1
unfolding no_order_in machine_command run_command run_alone eval_command check_command policy_command task_commands program walked order_of number_at
index_of_no_order = refl

index_among_orders : no_order_in (words (codes "run" ∷ codes "0:grant:1" ∷ codes "2:grant:1" ∷ [])) ≡ None
unfolding no_order_in machine_command run_command run_alone eval_command check_command policy_command task_commands program walked order_of number_at
index_among_orders = refl
