-- The request that the words make, from the result of parsing the command line.
use Rattle.std.proofs.Common.{◌≡◌, ◌⊎◌, ℕ, List, true, false, refl, ap, sym, ◌∙◌, subst, inl, inr, Option, Some, None, codes}
use Rattle.std.specs.{Option.{IsSome, option_map_or}, Str.bytes_eq}
use Rattle.clap.specs.Words.{Text, HasMatchesOf, app_of, first_value, is_simple, kind_of, rows_of, subcommand_of, subcommand_rows_of, takes}
use Rattle.clap.specs.declared.{builder.command.Command.Command, parser.matches.{ArgMatches.ArgMatches, Found.Found}}
use Rattle.clap.specs.declared.error.{Error.Error, kind.ErrorKind.TheVariants.OutOfMemory}
use Rattle.clap.proofs.WalkLemmas.{first_value-rows}
use Rattle.arachne_cli.specs.declared.command_line.{Request.Request, NotAsked.NotAsked}
use Rattle.arachne_cli.specs.declared.command_line.NotAsked.TheVariants.{NoOrder, Refused}
use Rattle.arachne_cli.specs.CommandLine.{IsNoOrderMet, IsUnasked, asked_by, check_command, eval_command, is_set, is_taken, no_order_in, no_order_met, machine_command, policy_command, program, request_met, run_alone, run_command, task_commands}

-- a flag by its text, and by the want of one
pub flag_by_text : (found : Found) (flag text : List ℕ) → Some text ≡ first_value found flag → is_set flag (rows_of found) ≡ bytes_eq text (codes "true")
flag_by_text found flag text e =
    ap (λ (o : Option (List ℕ)). option_map_or (λ t. bytes_eq t (codes "true")) o false) (sym (first_value-rows found flag) ∙ sym e)

pub flag_by_none : (found : Found) (flag : List ℕ) → None ≡ first_value found flag → is_set flag (rows_of found) ≡ false
flag_by_none found flag e =
    ap (λ (o : Option (List ℕ)). option_map_or (λ t. bytes_eq t (codes "true")) o false) (sym (first_value-rows found flag) ∙ sym e)

program_is_simple : is_simple program ≡ true
unfolding program task_commands machine_command run_command run_alone eval_command check_command policy_command
program_is_simple = refl

-- the result of a parse is the request that the words make
pub asked_is_met : (command : Command) (words : List Text) (m : ArgMatches) → app_of command ≡ program → HasMatchesOf (app_of command) words m
    → request_met (subcommand_rows_of m) ≡ asked_by words
unfolding asked_by
asked_is_met command words m is_program matches =
    ap request_met ((matches (ap is_simple is_program ∙ program_is_simple)).1 ∙ ap (λ app. subcommand_of app words) is_program)

-- words that the program takes are taken by a command that is the program
pub taken_by_program : (command : Command) (words : List Text) → app_of command ≡ program → is_taken words ≡ true → takes (app_of command) words ≡ true
unfolding is_taken
taken_by_program command words is_program taken = ap (λ app. takes app words) is_program ∙ taken

-- ---- why the words ask for nothing

-- a parse met the words' first word that is no order
no_order_is_met : (command : Command) (words : List Text) (m : ArgMatches) → app_of command ≡ program → HasMatchesOf (app_of command) words m
    → no_order_met (subcommand_rows_of m) ≡ no_order_in words
unfolding no_order_in
no_order_is_met command words m is_program matches =
    ap no_order_met ((matches (ap is_simple is_program ∙ program_is_simple)).1 ∙ ap (λ app. subcommand_of app words) is_program)

pub refused_by_parser : (command : Command) (words : List Text) (error : Error) → app_of command ≡ program → (takes (app_of command) words ≡ true → kind_of error ≡ OutOfMemory)
    → IsUnasked words (Refused error)
refused_by_parser command words error is_program passes = λ taken asks. passes (taken_by_program command words is_program taken)

pub no_order_met_first : (command : Command) (words : List Text) (m : ArgMatches) (fault : NotAsked) → app_of command ≡ program → HasMatchesOf (app_of command) words m
    → IsNoOrderMet (subcommand_rows_of m) fault → IsUnasked words fault
no_order_met_first command words m (NoOrder index) is_program matches none = sym (no_order_is_met command words m is_program matches) ∙ none
no_order_met_first command words m (Refused error) is_program matches none = λ taken asks. none

pub nothing_met : (command : Command) (words : List Text) (m : ArgMatches) (error : Error) → app_of command ≡ program → HasMatchesOf (app_of command) words m
    → None ≡ request_met (subcommand_rows_of m) → no_order_met (subcommand_rows_of m) ≡ None → IsUnasked words (Refused error)
nothing_met command words m error is_program matches asked orders = λ taken asks. absurd (none asks)
  where
    none_asked : IsSome (asked_by words) → ⊥
    none_asked some =
        let impossible : false ≡ true =
        subst (λ (o : Option Request). IsSome o) (sym (asked ∙ asked_is_met command words m is_program matches)) some in
        absurd (cc)

    none_orders : IsSome (no_order_in words) → ⊥
    none_orders some =
        let impossible : false ≡ true =
        subst (λ (o : Option ℕ). IsSome o) (sym (no_order_is_met command words m is_program matches) ∙ orders) some in
        absurd (cc)

    none : IsSome (asked_by words) ⊎ IsSome (no_order_in words) → ⊥
    none (inl some) = none_asked some
    none (inr some) = none_orders some
