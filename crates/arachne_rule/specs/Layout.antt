-- The order of the words: the mark word of context x is word x. Behind the n mark words, each core has a block with its
-- occupancy word and, further on, the place words of its indexes. No other word is within two cache lines of an
-- occupancy word.
use Rattle.std.specs.Prelude.{◌≡◌, ℕ, ◌+◌, ◌-◌, ◌*◌, ◌^◌, ◌<◌, ◌≤◌, false, List, length, slice_index, Option}
use lib.ListN.{get_elem?}
use Rattle.atomic_table.specs.{Seated.TableId, Table.State}
use Rattle.arachne_core.specs.declared.{layout.TheConstants.{CORES, SLOTS}, place.Place.Place}
use Rattle.arachne_core.specs.declared.mark.Mark.TheVariants as mark
use Rattle.arachne_core.specs.{Place.{first_place, number_of}, Marked.mark_word}
use Rattle.arachne_weights.specs.declared.token.Token.{Token}
use Rattle.arachne_rule.specs.declared.{layout.TheConstants.{BLOCK, NAMES, OCCUPANCY}, view.Known.Known}
use Rattle.arachne_rule.specs.{declared.view.Shape.Shape, Rule.Board}

-- the number of contexts, which is the number of places
abbrev pub contexts_in : Shape → ℕ
contexts_in shape = shape.cores * shape.places_per_core

-- the index of core c's occupancy word, if there are n contexts
abbrev pub occ_index : ℕ → ℕ → ℕ
occ_index n c = n + BLOCK * c + OCCUPANCY

-- the index of a place's place word
abbrev pub name_index : ℕ → Place → ℕ
name_index n p = n + BLOCK * p.core + NAMES + p.index

-- the number of words
abbrev pub words_in : Shape → ℕ
words_in shape = contexts_in shape + BLOCK * shape.cores

-- the words and slots of a table with n contexts, as maps
abbrev pub board_of : {T : Type 0} → ℕ → State (Option T) (Token Known) → Board T
board_of n s = record {
  occ = λ c. slice_index s.words (occ_index n c);
  mark = λ x. slice_index s.words x;
  name = λ p. slice_index s.words (name_index n p);
  home = λ x. get_elem? s.homes x;
  views = s.views;
}

-- the fields of the words are large enough for such a machine
pub record IsShape (bits : ℕ) (shape : Shape) : Type 0 where
  pub cores : shape.cores ≤ 2 ^ bits
  pub some : 0 < shape.places_per_core
  pub slots : shape.places_per_core ≤ SLOTS
  pub last : shape.last < 2 ^ (54 - bits)
  pub first : shape.first ≤ shape.last

-- the words at first: no index is occupied, each context is free at its first place, and its place word names it
pub record AreFirstWords (bits : ℕ) (shape : Shape) (words : List ℕ) : Type 0 where
  pub long : length words ≡ words_in shape
  pub occ : (c : ℕ) → c < shape.cores → slice_index words (occ_index (contexts_in shape) c) ≡ 0
  pub mark : (x : ℕ) → x < contexts_in shape
      → slice_index words x ≡ mark_word bits (record { mark = mark.Free; alone = false; place = first_place shape.places_per_core x; generation = shape.first })
  pub name : (p : Place) → p.core < shape.cores → p.index < shape.places_per_core → slice_index words (name_index (contexts_in shape) p) ≡ number_of shape.places_per_core p

-- ---- the model of the type that owns the table

-- the identity of the table, and its shape
pub record Contexts : Type 0 where
  pub table : TableId
  pub shape : Shape

-- the table has the words and slots of its shape, and the numbers are small enough
pub record IsLaidOut (c : Contexts) : Type 0 where
  pub words : c.table.words ≡ words_in c.shape
  pub slots : c.table.slots ≡ contexts_in c.shape
  pub few : (c.shape.cores ≤ CORES) × (0 < c.shape.places_per_core) × (c.shape.places_per_core ≤ SLOTS) × (c.table.slots ≤ CORES * SLOTS)
