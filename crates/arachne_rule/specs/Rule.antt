-- The rule: occupancy words, mark words, place words, values at home and views show a World that is owned once.
use Rattle.std.specs.Prelude.{◌≡◌, ℕ, ◌-◌, ◌<◌, ◌≤◌, ◌^◌, Bool, true, false, if◌then◌else◌, ◌==◌, List, [], ◌∷◌, slice_set, slice_index_or}
use Rattle.std.specs.declared.option.Option.{Option, TheVariants.{None, Some}}
use mathlib.Core.Option as slot
use lib.ListN.{get_elem?}
use Rattle.arachne_core.specs.declared.{layout.TheConstants.SLOTS, place.Place.Place, state.State.State}
use Rattle.arachne_core.specs.declared.state.State.TheVariants.{Free, Claimed, Ready, Blocked, Held, Spent}
use Rattle.arachne_core.specs.{Occupancy.{occupancy_of, IsOccupancyWord}, Marked.mark_word, OwnedOnce.OwnedOnce}
use Rattle.arachne_core.specs.{World.{World, Thread, IsContext, IsPlace, core_of}, ContextTable.{ShowsCore, marked}}
use Rattle.arachne_weights.specs.{declared.token.Token.Token, Tokens.{held, IsReachable}}
use Rattle.arachne_rule.specs.declared.view.{Carried.Carried, Known.Known}
use Rattle.arachne_rule.specs.Views.{blank, known_at, carried_at, given_in, ended_in}

-- The words and slots as maps: occupancy words by core, mark words by context, place words by place, slots by context.
-- A slot is out with a seat (none), or at home in the table, empty or with a value.
pub record Board (T : Type 0) : Type 0 where
  pub occ : ℕ → ℕ
  pub mark : ℕ → ℕ
  pub name : Place → ℕ
  pub home : ℕ → slot.Option (slot.Option (Option T))
  pub views : List (Token Known)

module _ {T : Type 0} where
  -- seat h, of this weight, is in use and knows k
  abbrev pub Knows : Board T → ℕ → ℕ → Known → Type 0
  Knows b h weight k = get_elem? b.views h ≡ slot.some (held weight k)

  -- the views if the seat knows k instead
  abbrev pub views_with : Board T → ℕ → ℕ → Known → List (Token Known)
  views_with b h weight k = slice_set b.views h (held weight k)

-- The phase of a context between the steps of a call: whether its slot is out with its carrier, whether the place word
-- of its place names it, and the place in its mark word.
pub record Phase : Type 0 where
  pub away : Bool
  pub named : Bool
  pub shown : Place

-- the phase of a context that stands at p, if no call on it is in progress
abbrev pub settled : Place → Phase
settled p = record { away = false; named = true; shown = p }

-- The phases that are possible for a context of this state, which stands at p. The slot of a context may be out only
-- with the seat that has claimed or holds it. After a move, the context whose place was taken still has its former
-- place in its mark word until that is stored anew, and it stays claimed until its place word names it again.
abbrev pub Coherent : State → Place → Phase → Type 0
Coherent Free p f = (f.away ≡ false) × (f.named ≡ true) × (f.shown ≡ p)
Coherent (Claimed h) p f = f.named ≡ true → f.shown ≡ p
Coherent (Ready tag) p f = (f.away ≡ false) × (f.shown ≡ p)
Coherent (Blocked tag) p f = (f.away ≡ false) × (f.shown ≡ p)
Coherent (Held h woken tag) p f = f.shown ≡ p
Coherent Spent p f = (f.away ≡ false) × (f.shown ≡ p)

-- ---- the knowledge that seats have of the contexts

-- the part that seat h has of a context in this state: the one that `says` gives for a claimed context, or for a held
-- one with its tag; otherwise none
abbrev pub carried_if : State → ℕ → (Bool → ℕ → Carried) → List Carried
carried_if (Claimed k) h says = if k == h then says false 0 ∷ [] else []
carried_if (Held k woken tag) h says = if k == h then says true tag ∷ [] else []
carried_if s h says = []

abbrev pub carried_of : World → (ℕ → Phase) → ℕ → Bool → ℕ → Carried
carried_of w d x held tag = record {
  context = x;
  place = w.at x;
  shown = (d x).shown;
  generation = w.generation x;
  held = held;
  tag = tag;
  alone = w.alone (core_of w x);
  named = (d x).named;
  away = (d x).away;
}

abbrev pub share_of : World → (ℕ → Phase) → ℕ → ℕ → List Carried
share_of w d h x = carried_if (w.state x) h (carried_of w d x)

-- ---- the fields of an occupancy word

abbrev pub is_closed : ℕ → Bool
is_closed word = (occupancy_of word).closed

abbrev pub is_exclusive : ℕ → Bool
is_exclusive word = (occupancy_of word).exclusive

abbrev pub is_occupied : ℕ → ℕ → Bool
is_occupied word i = slice_index_or (occupancy_of word).occupied i false

abbrev pub HasNoOccupied : ℕ → ℕ → Type 0
HasNoOccupied slots word = (i : ℕ) → i < slots → is_occupied word i ≡ false

-- ---- the rule

-- the word is the occupancy word of core c of the World
pub record ShowsWord (w : World) (c word : ℕ) : Type 0 where
  pub packed : IsOccupancyWord word
  pub shows : ShowsCore w c (occupancy_of word)

module _ {T : Type 0} (tag_in : T → ℕ) where
  -- the slot, at home, has the value of the thread, with its tag, if the thread is at rest; otherwise it is empty
  abbrev pub HasValue : State → slot.Option (slot.Option (Option T)) → Type 0
  HasValue (Ready tag) s = (value : T) × (s ≡ slot.some (slot.some (Some value))) × (tag_in value ≡ tag)
  HasValue (Blocked tag) s = (value : T) × (s ≡ slot.some (slot.some (Some value))) × (tag_in value ≡ tag)
  HasValue state s = s ≡ slot.some (slot.some None)

  -- the mark word of context x, the place word of its place, and its slot are those of the World, in its phase
  pub record ShowsContext (bits : ℕ) (w : World) (d : ℕ → Phase) (b : Board T) (x : ℕ) : Type 0 where
    pub within : IsPlace w (d x).shown
    pub coherent : Coherent (w.state x) (w.at x) (d x)
    pub mark : b.mark x ≡ mark_word bits (record (marked w x) { place = (d x).shown })
    pub named : (d x).named ≡ true → b.name (w.at x) ≡ x
    pub value : (d x).away ≡ false → HasValue (w.state x) (b.home x)

  -- The board shows the World. A mark word has `bits` bits for the core's number. No index from the number of a core's
  -- places on is occupied. Every place word names a context. And each seat's knowledge of what it carries, has posted
  -- and has ended is its share of the World.
  pub record Shows (bits : ℕ) (w : World) (d : ℕ → Phase) (b : Board T) : Type 0 where
    pub owned : OwnedOnce w
    pub fits : (w.cores ≤ 2 ^ bits) × (w.slots ≤ SLOTS) × (w.last < 2 ^ (54 - bits))
    pub cores : (c : ℕ) → c < w.cores → ShowsWord w c (b.occ c)
    pub beyond : (p : Place) → w.slots ≤ p.index → w.occupied p ≡ false
    pub contexts : (x : ℕ) → IsContext w x → ShowsContext bits w d b x
    pub names : (p : Place) → IsPlace w p → IsContext w (b.name p)
    pub carried : (h x : ℕ) → IsContext w x → carried_at x (known_at b.views h).carried ≡ share_of w d h x
    pub seats : IsReachable blank b.views
    pub given : (t : Thread) → w.given t ≡ given_in t b.views
    pub ended : (t : Thread) → w.ended t ≡ ended_in t b.views
