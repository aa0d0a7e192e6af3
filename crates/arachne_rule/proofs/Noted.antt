-- A seat notes what it has seen, which changes nothing else that it knows.
use Rattle.std.proofs.Common.{◌≡◌, ℕ, set, ap, ◌∙◌}
use mathlib.Core.Option as opt
use lib.ListN.{get_elem?}
use Rattle.arachne_core.specs.World.{World}
use Rattle.arachne_weights.specs.Tokens.{held, learns}
use Rattle.arachne_rule.specs.{declared.view.Known.Known, Views.carried_at, Rule.{Board, Phase, Shows}}
use Rattle.arachne_rule.proofs.Views.{learned-else, given-same, ended-same}

module _ {T : Type 0} (tag_in : T → ℕ) (bits : ℕ) (w : World) (d : ℕ → Phase) (b : Board T) (s : Shows tag_in bits w d b)
    (h weight : ℕ) (k : Known) (mine : get_elem? b.views h ≡ opt.some (held weight k)) where
  pub noted_board : (k' : Known) → k'.carried ≡ k.carried → k'.given ≡ k.given → k'.ended ≡ k.ended → Shows tag_in bits w d (record b { views = set b.views h (held weight k') })
  noted_board k' same given ended = record {
    owned = s.owned;
    fits = s.fits;
    beyond = s.beyond;
    cores = s.cores;
    contexts = λ x x_in. let o = s.contexts x x_in in record { within = o.within; coherent = o.coherent; mark = o.mark; named = o.named; value = o.value };
    names = s.names;
    carried = λ j x x_in. learned-else b.views h weight k k' mine x (ap (carried_at x) same) j ∙ s.carried j x x_in;
    seats = learns s.seats h weight k k' mine;
    given = λ t. s.given t ∙ given-same b.views h weight k k' mine given t;
    ended = λ t. s.ended t ∙ ended-same b.views h weight k k' mine ended t;
  }
