-- Facts about words that are refused with status 2.
use Rattle.std.proofs.Common.{◌≡◌, ℕ, List, Bool, true, false, Option, Some, None, Result, Ok, Err, refl, sym, ◌∙◌, subst, inl, inr, codes, option_and_then}
use Rattle.std.specs.{Str.bytes_eq, Result.{result_err, result_ok}, Option.IsSome}
use Rattle.clap.specs.Words.{Row, Text, subcommand_of}
use Rattle.arachne_policy.specs.declared.orders.CoreOrder.{CoreOrder}
use Rattle.arachne_cli.specs.declared.command_line.{Request.Request, NotAsked.NotAsked}
use Rattle.arachne_cli.specs.declared.command_line.NotAsked.TheVariants.{NoOrder, Refused}
use Rattle.arachne_cli.specs.CommandLine.{IsUnasked, asked_by, is_taken, no_order_in, no_order_met, no_order_under, order_words, program, request_met, request_of, with_orders}
use Rattle.arachne_cli.specs.{Orders.orders_of, Fault.fault_line, Ends.{AppendsFront, IsTold}}
use Rattle.arachne_cli.specs.declared.fault.Fault.TheVariants as fault

-- a run with a word that is no order is no request
no_run : (rows : List Row) (found : Result (List CoreOrder) ℕ) (index : ℕ) → orders_of (order_words rows) ≡ found → result_err found ≡ Some index
    → option_and_then (with_orders rows) (result_ok found) ≡ None
no_run rows (Ok orders) index o e = absurd (cc)
no_run rows (Err first) index o e = refl

not_under : (name : Text) (rows : List Row) (index : ℕ) (is_run : Bool) → bytes_eq name (codes "run") ≡ is_run → no_order_under name rows ≡ Some index
    → request_of name rows ≡ None
not_under name rows index true r e =
    let none : result_err (orders_of (order_words rows)) ≡ Some index = rw (r) at e in
    rw (r) (no_run rows (orders_of (order_words rows)) index refl none)
not_under name rows index false r e = let none : None ≡ Some index = rw (r) at e in absurd (cc)

not_met : (met : Option (Text × List Row)) (index : ℕ) → no_order_met met ≡ Some index → request_met met ≡ None
not_met None index e = refl
not_met (Some (name, rows)) index e = not_under name rows index (bytes_eq name (codes "run")) refl e

pub no_order_asks_nothing : (words : List Text) (index : ℕ) → no_order_in words ≡ Some index → asked_by words ≡ None
unfolding no_order_in asked_by
no_order_asks_nothing words index e = not_met (subcommand_of program words) index e

some_is : (o : Option Request) (request : Request) → o ≡ Some request → IsSome o
some_is o request e = subst (λ (o : Option Request). IsSome o) (sym e) refl

some_index : (o : Option ℕ) (index : ℕ) → o ≡ Some index → IsSome o
some_index o index e = subst (λ (o : Option ℕ). IsSome o) (sym e) refl

pub refused_asks_nothing : (words : List Text) (why : NotAsked) (before after : Option (List ℕ)) → IsUnasked words why → IsTold why before after
    → is_taken words ≡ true → asked_by words ≡ None
refused_asks_nothing words (NoOrder index) before after unasked told taken = no_order_asks_nothing words index unasked
refused_asks_nothing words (Refused error) before after unasked told taken = by_asked (asked_by words) refl
  where
    by_asked : (asked : Option Request) → asked_by words ≡ asked → asked_by words ≡ None
    by_asked None e = e
    by_asked (Some request) e = absurd (told (unasked taken (inl (some_is (asked_by words) request e))))

pub refused_tells_no_order : (words : List Text) (why : NotAsked) (before after : Option (List ℕ)) → IsUnasked words why → IsTold why before after
    → is_taken words ≡ true → (index : ℕ) → no_order_in words ≡ Some index → AppendsFront before after (fault_line (fault.NoOrder index))
refused_tells_no_order words (NoOrder first) before after unasked told taken index found =
    let same : first ≡ index = some_same (sym unasked ∙ found) in
    subst (λ (n : ℕ). AppendsFront before after (fault_line (fault.NoOrder n))) same told
  where
    some_same : Some first ≡ Some index → first ≡ index
    some_same e = cc
refused_tells_no_order words (Refused error) before after unasked told taken index found =
    absurd (told (unasked taken (inr (some_index (no_order_in words) index found))))
