-- The request that the words of the command line make, by the grammar of the command line.
use Rattle.std.specs.Prelude.{ℕ, ◌-◌, ◌^◌, ◌==◌, ◌&&◌, not, nat_lt, nat_le, length, Bool, true, false, List, [], ◌∷◌, Option, Some, None, option_and_then, option_map, unwrap_or, if◌then◌else◌, codes, ◌≡◌, ◌⊎◌, ◌≤◌, IsSome, ⊤}
use Rattle.std.specs.{Option.option_map_or, Result.{result_ok, result_err}, List.list_all, Char.is_digit}
use Rattle.std.specs.Str.{bytes_eq, Parse.{digits_value, without_leading_plus}}
use Rattle.arachne_policy.specs.declared.{limits.TheConstants.MAX_CORES, orders.CoreOrder.CoreOrder}
use Rattle.clap.specs.declared.builder.value_parser.ValueParser.TheVariants.{Unsigned}
use Rattle.clap.specs.Words.{App, Rule, Row, Text, new_app, new_rule, with_rule, with_subcommand, all_of, first_of, kind_of, subcommand_of, takes}
use Rattle.clap.specs.declared.builder.action.ArgAction.TheVariants.{Append, SetTrue}
use Rattle.clap.specs.declared.error.kind.ErrorKind.TheVariants.{OutOfMemory}
use Rattle.arachne_cli.specs.declared.command_line.Request.{Request, TheVariants.{Run, Serial}}
use Rattle.arachne_cli.specs.declared.command_line.SerialRequest.{SerialRequest, TheVariants.{Eval, Check, Policy}}
use Rattle.arachne_cli.specs.declared.command_line.NotAsked.{NotAsked, TheVariants.{NoOrder, Refused}}
use Rattle.arachne_cli.specs.Orders.{orders_of}

-- the flag that asks for the names of threads
abbrev pub names_flag : Rule
names_flag = record (new_rule (codes "names")) { long = Some (codes "names"); action = Some SetTrue }

-- the commands
unfoldable pub eval_command : App
eval_command = with_rule (new_app (codes "eval")) names_flag

unfoldable pub check_command : App
check_command = new_app (codes "check")

-- the order words of a run, of which there may be any number
abbrev pub orders_rule : Rule
orders_rule = record (new_rule (codes "order")) { action = Some Append; value_names = 1 }

-- an option for a number up to `most`, with a default
abbrev pub number_option : Text → ℕ → Text → Rule
number_option name most standard =
    record (new_rule name) { long = Some name; value_names = 1; defaults = standard ∷ []; parser = Some (Unsigned 0 most) }

-- a run with only the options for its cores, its seed and its quantum, and one with all options
unfoldable pub machine_command : App
machine_command =
    with_rule (with_rule (with_rule (new_app (codes "run"))
    (number_option (codes "cores") (2 ^ 64 - 1) (codes "4")))
    (number_option (codes "seed") (2 ^ 64 - 1) (codes "1")))
    (number_option (codes "quantum") (2 ^ 64 - 1) (codes "100"))

unfoldable pub run_command : App
run_command = with_rule (with_rule (with_rule machine_command (number_option (codes "slots") (2 ^ 64 - 1) (codes "56"))) names_flag) orders_rule

unfoldable pub policy_command : App
policy_command =
    with_rule (with_rule (with_rule (new_app (codes "policy"))
    (number_option (codes "up") (2 ^ 64 - 1) (codes "1500")))
    (number_option (codes "hysteresis") (2 ^ 64 - 1) (codes "90")))
    (number_option (codes "max") MAX_CORES (codes "16"))

-- the program with only the command to run a task text, and with all commands on task texts
unfoldable pub run_alone : App
run_alone =
    with_subcommand (record (new_app (codes "arachne")) { top = record (new_app (codes "arachne")).top { subcommand_required = true; has_version = true } }) run_command.top

unfoldable pub task_commands : App
task_commands = with_subcommand (with_subcommand run_alone eval_command.top) check_command.top

-- the program, which needs one of its commands
unfoldable pub program : App
program = with_subcommand task_commands policy_command.top

-- a flag is set if its text is "true"
abbrev pub is_set : Text → List Row → Bool
is_set flag rows = option_map_or (λ text. bytes_eq text (codes "true")) (first_of flag rows) false

-- the number that a text of digits spells, with or without a plus before it, if it fits 64 bits
unfoldable pub number_of : Text → Option ℕ
number_of text =
    let digits = without_leading_plus text in
    if (not (length digits == 0) && list_all (λ c. is_digit c 10) digits) && nat_lt (digits_value 10 digits) (2 ^ 64)
    then Some (digits_value 10 digits) else None

-- the number of an option
abbrev pub number_under : Text → List Row → Option ℕ
number_under option rows = option_and_then number_of (first_of option rows)

-- the request to judge samples, with at most 64 cores
abbrev pub policy_by : ℕ → ℕ → ℕ → Option Request
policy_by up hysteresis max = if nat_le max MAX_CORES then Some (Serial (Policy (record { up = up; hysteresis = hysteresis; max = max }))) else None

abbrev pub policy_asked : List Row → Option Request
policy_asked rows =
    option_and_then (λ up. option_and_then (λ hysteresis. option_and_then (policy_by up hysteresis)
    (number_under (codes "max") rows)) (number_under (codes "hysteresis") rows)) (number_under (codes "up") rows)

-- the order words of a run, each of which must spell an order
abbrev pub order_words : List Row → List Text
order_words rows = unwrap_or (all_of (codes "order") rows) []

abbrev pub run_by : Bool → List CoreOrder → ℕ → ℕ → ℕ → ℕ → Request
run_by names orders cores seed quantum slots = Run (record { cores = cores; seed = seed; quantum = quantum; slots = slots; names = names; orders = orders })

-- a run with these orders
abbrev pub with_orders : List Row → List CoreOrder → Option Request
with_orders rows orders =
    option_and_then (λ cores. option_and_then (λ seed. option_and_then (λ quantum. option_map (run_by (is_set (codes "names") rows) orders cores seed quantum)
    (number_under (codes "slots") rows)) (number_under (codes "quantum") rows)) (number_under (codes "seed") rows)) (number_under (codes "cores") rows)

-- a run, if none of its order words is malformed
abbrev pub run_asked : List Row → Option Request
run_asked rows = option_and_then (with_orders rows) (result_ok (orders_of (order_words rows)))

-- the request of a subcommand and its entries
abbrev pub request_of : Text → List Row → Option Request
request_of name rows =
    if bytes_eq name (codes "run") then run_asked rows
    else if bytes_eq name (codes "eval") then Some (Serial (Eval (is_set (codes "names") rows)))
    else if bytes_eq name (codes "check") then Some (Serial Check)
    else if bytes_eq name (codes "policy") then policy_asked rows
    else None

-- the request of the subcommand that was found, with its entries
abbrev pub request_met : Option (Text × List Row) → Option Request
request_met = option_and_then (λ met. request_of met.0 met.1)

-- the request that the words make, of which the first is the program's name
unfoldable pub asked_by : List Text → Option Request
asked_by words = request_met (subcommand_of program words)

-- the index of the first malformed order word of a run
abbrev pub no_order_under : Text → List Row → Option ℕ
no_order_under name rows = if bytes_eq name (codes "run") then result_err (orders_of (order_words rows)) else None

abbrev pub no_order_met : Option (Text × List Row) → Option ℕ
no_order_met = option_and_then (λ met. no_order_under met.0 met.1)

-- if the words ask for a run, the index of its first malformed order word
unfoldable pub no_order_in : List Text → Option ℕ
no_order_in words = no_order_met (subcommand_of program words)

-- the program takes the words: parsing them fails only if memory is refused
unfoldable pub is_taken : List Text → Bool
is_taken words = takes program words

-- samples are judged for at most 64 cores
abbrev pub MayAnswer : SerialRequest → Type 0
MayAnswer (Eval names) = ⊤
MayAnswer Check = ⊤
MayAnswer (Policy settings) = settings.max ≤ MAX_CORES

abbrev pub IsAllowed : Request → Type 0
IsAllowed (Run settings) = ⊤
IsAllowed (Serial request) = MayAnswer request

-- the request for one thread, if this is one
abbrev pub serial_in : Option Request → Option SerialRequest
serial_in None = None
serial_in (Some (Run settings)) = None
serial_in (Some (Serial request)) = Some request

-- the request for one thread that the words make
abbrev pub asked_serially : List Text → Option SerialRequest
asked_serially words = serial_in (asked_by words)

-- memory was refused
abbrev pub IsWantOfMemory : NotAsked → Type 0
IsWantOfMemory (NoOrder index) = ⊥
IsWantOfMemory (Refused error) = kind_of error ≡ OutOfMemory

-- the first malformed word has this index, or memory was refused
abbrev pub IsNoOrderAt : Option ℕ → NotAsked → Type 0
IsNoOrderAt found (NoOrder index) = found ≡ Some index
IsNoOrderAt found (Refused error) = kind_of error ≡ OutOfMemory

abbrev pub IsNoOrderAmong : List Text → NotAsked → Type 0
IsNoOrderAmong words = IsNoOrderAt (result_err (orders_of words))

abbrev pub IsNoOrderMet : Option (Text × List Row) → NotAsked → Type 0
IsNoOrderMet met = IsNoOrderAt (no_order_met met)

-- The reason why words are refused: an order word is malformed, or the parser of command lines refuses them. If the
-- program takes the words, and they make a request or have a malformed order word, the parser refuses them only if
-- memory is refused.
abbrev pub IsUnasked : List Text → NotAsked → Type 0
IsUnasked words (NoOrder index) = no_order_in words ≡ Some index
IsUnasked words (Refused error) = is_taken words ≡ true → IsSome (asked_by words) ⊎ IsSome (no_order_in words) → kind_of error ≡ OutOfMemory
