-- The table at first.
use Rattle.std.proofs.Common.{◌≡◌, ℕ, zero, suc, ◌*◌, ◌<◌, ◌≤◌, false, List, [], ◌∷◌, length, refl, sym, ap, ◌∙◌, subst, arith, get_or, mul-le-mul_right, suc-mul, div-add-mod', map, replicate, Option, None}
use Rattle.std.specs.declared.option.Option.TheVariants.{None}
use mathlib.Core.Option as opt
use Rattle.atomic_table.specs.Table.{opening}
use lib.ListN.{get_elem?}
use Rattle.arachne_core.specs.{declared.place.Place.Place, Occupancy.Occupancy, Place.{first_place, number_of}}
use Rattle.arachne_core.specs.{World.{World, IsContext}, OwnedOnce.OwnedOnce, Run.IsOpening}
use Rattle.arachne_core.proofs.{Runs.opening_owned_once, OccupancyWords.{packs_vacant, vacant-flag, vacant-open}}
use Rattle.arachne_weights.specs.{declared.token.Token.Token, Weight.whole, Tokens.{held, begins}}
use Rattle.arachne_rule.specs.{declared.view.{Known.Known, Shape.Shape}, Views.{blank, known_at, carried_at}}
use Rattle.arachne_rule.specs.{Rule.{settled, ShowsWord, Shows}, Layout.{contexts_in, board_of, IsShape, AreFirstWords}}
use Rattle.arachne_rule.specs.{History.opening_world, Table.{Table, Holds}}

nobody : (h : ℕ) → (known_at (held whole blank ∷ []) h).carried ≡ []
nobody zero = refl
nobody (suc h) = refl

number-in : (k m : ℕ) (p : Place) → p.core < k → p.index < m → number_of m p < k * m
number-in k m p c_in i_in = let a : suc p.core * m ≤ k * m = mul-le-mul_right m c_in in omega (arith, suc-mul p.core m, i_in)

abbrev nothing : (T : Type 0) → Option T
nothing T = None

long-enough : (T : Type 0) (m : ℕ) → length (map opt.some (replicate m (nothing T))) ≡ m
long-enough T zero = refl
long-enough T (suc m) = ap suc (long-enough T m)

module _ {T : Type 0} (tag_in : T → ℕ) (bits : ℕ) (shape : Shape) (words : List ℕ) (is : IsShape bits shape) (first_words : AreFirstWords bits shape words) where
  abbrev slots : List (Option T)
  slots = replicate (contexts_in shape) (nothing T)

  abbrev start : Table T
  start = opening words slots (held whole blank)

  empty : (m x : ℕ) → x < m → get_elem? (map opt.some (replicate m (nothing T))) x ≡ opt.some (opt.some (nothing T))
  empty zero x l = absurd (omega (arith, l))
  empty (suc m) zero l = refl
  empty (suc m) (suc x) l = empty m x (omega (arith, l))

  shows-opening : Shows tag_in bits (opening_world shape) (λ x. settled (first_place shape.places_per_core x)) (board_of (contexts_in shape) start)
  shows-opening =
      let w : World = opening_world shape in
      let o : IsOpening w shape.first = record { within = is.first; at = λ x _. refl; generation = λ x _. refl; state = λ x _. refl; occupied = λ p _. refl; closed = λ c _. refl; alone = λ c _. refl; given = λ t. refl; ended = λ t. refl } in
      let owned : OwnedOnce w = opening_owned_once w shape.first o in
      record {
        owned = owned;
        fits = (is.cores, is.slots, is.last);
        beyond = λ p _. refl;
        cores = λ c c_in. subst (ShowsWord w c) (sym (first_words.occ c c_in)) (record {
          packed = packs_vacant.0;
          shows = record {
            occupied = λ i. ap (λ (o : Occupancy). get_or o.occupied i false) packs_vacant.1 ∙ vacant-flag i;
            closed = ap (λ (o : Occupancy). o.closed) packs_vacant.1 ∙ vacant-open.0;
            exclusive = ap (λ (o : Occupancy). o.exclusive) packs_vacant.1 ∙ vacant-open.1;
          };
        });
        contexts = λ x x_in. record {
          within = owned.placed x x_in;
          coherent = (refl, refl, refl);
          mark = first_words.mark x x_in;
          named = λ _. first_words.name (first_place shape.places_per_core x) (owned.placed x x_in).0 (owned.placed x x_in).1 ∙ div-add-mod' x shape.places_per_core;
          value = λ _. empty (contexts_in shape) x x_in;
        };
        names = λ p p_in. subst (IsContext w) (sym (first_words.name p p_in.0 p_in.1)) (number-in shape.cores shape.places_per_core p p_in.0 p_in.1);
        carried = λ h x _. ap (carried_at x) (nobody h);
        seats = begins blank;
        given = λ t. refl;
        ended = λ t. refl;
      }

  first-records : (h weight : ℕ) (k : Known) → get_elem? (held whole blank ∷ []) h ≡ opt.some (held weight k) → k.records ≡ []
  first-records zero weight k e = ap (λ (v : Token Known). v.known.records) (sym (opt.some-injective (held whole blank) (held weight k) e))
  first-records (suc h) weight k e = absurd (opt.some-ne-none (held weight k) (sym e))

  -- the rule holds at first
  pub opens : Holds tag_in bits shape start
  opens = record {
    world = opening_world shape;
    phase = λ x. settled (first_place shape.places_per_core x);
    first = words;
    history = [];
    fits = record { cores = refl; slots = refl; last = refl; words = first_words.long; homes = long-enough T (contexts_in shape) };
    shows = shows-opening;
    tells = record { first_words = first_words; lawful = tt; world = refl; words = refl; seats = tt; records = first-records };
  }
