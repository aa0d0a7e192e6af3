-- The phases of the contexts, and the board, after each kind of step.
use Rattle.std.specs.Prelude.{◌≡◌, ℕ, ◌+◌, ◌-◌, ◌^◌, true, false, ◌∷◌, [], ◌++◌, slice_set, Option, Some, None}
use mathlib.Core.Option as slot
use Rattle.arachne_core.specs.{declared.{place.Place.Place, mark.Mark.Mark}, Marked.{Marked, mark_word, marked_of}}
use Rattle.arachne_core.specs.World.{World, with_at}
use Rattle.arachne_core.specs.declared.mark.Mark.TheVariants as mark
use Rattle.arachne_weights.specs.Tokens.{held, spent}
use Rattle.arachne_rule.specs.{declared.view.{Carried.Carried, Known.Known}, Rule.{Phase, Board, views_with, settled}}
use Rattle.arachne_rule.specs.Views.{blank, with_context, without_context, first_seat, second_seat, joined_seat}
use Rattle.arachne_rule.specs.Changes.{with_name, claimed_context, alone_context, taken_context, claimed_again, left_context, posted, retired, spent_known, marked_as, marked_free, marked_spent, index_sum, release_sum, taken_phase, moved_phase}

-- The state before a step: a board that shows a World, the phases of the calls in progress, and the seat that makes the
-- step.
pub record Seated (T : Type 0) : Type 0 where
  pub tag_in : T → ℕ
  pub bits : ℕ
  pub world : World
  pub phases : ℕ → Phase
  pub board : Board T
  pub seat : ℕ
  pub weight : ℕ
  pub known : Known

-- the state after a step
pub record Left (T : Type 0) : Type 0 where
  pub phases : ℕ → Phase
  pub board : Board T

module _ {T : Type 0} where
  -- the fields of a context's mark word
  abbrev pub mark_at : Seated T → ℕ → Marked
  mark_at s x = marked_of s.bits (s.board.mark x)

  -- the slot of the context is at home, with this content
  abbrev pub HasAtHome : Seated T → ℕ → Option T → Type 0
  HasAtHome s x v = s.board.home x ≡ slot.some (slot.some v)

  -- the place word of the context's place names it, and its empty slot is at home
  abbrev pub IsNamedAtHome : Seated T → Carried → Type 0
  IsNamedAtHome s c = (s.board.name c.place ≡ c.context) × HasAtHome s c.context None

  -- ---- loads

  -- after a look: the seat has noted one more step, and otherwise knows the same
  abbrev pub after_look : Seated T → Known → Left T
  after_look s noting = record { phases = s.phases; board = record s.board { views = views_with s.board s.seat s.weight noting } }

  -- after learning: the slot of the context is out with the seat
  abbrev pub after_learning : Seated T → Carried → Left T
  after_learning s c = record {
    phases = with_at s.phases c.context (record (s.phases c.context) { away = true });
    board = record s.board {
      home = with_at s.board.home c.context (slot.some slot.none);
      views = views_with s.board s.seat s.weight (with_context s.known (record c { away = true }));
    };
  }

  -- ---- claims

  -- after a claim: the word of the core has the index of the place, and one more in its count
  abbrev pub after_claim : Seated T → Place → ℕ → Left T
  after_claim s p x = record {
    phases = s.phases;
    board = record s.board {
      occ = with_at s.board.occ p.core (s.board.occ p.core + index_sum p.index);
      views = views_with s.board s.seat s.weight (with_context s.known (claimed_context x p (s.world.generation x)));
    };
  }

  -- after a claim of a core: its word has index 0, 1 in its count, and the exclusive bit
  abbrev pub after_alone : Seated T → ℕ → ℕ → Left T
  after_alone s core x = record {
    phases = s.phases;
    board = record s.board {
      occ = with_at s.board.occ core (2 ^ 63 + index_sum 0);
      views = views_with s.board s.seat s.weight (with_context s.known (alone_context x core (s.world.generation x)));
    };
  }

  -- after a release: what the claim had added is subtracted from the word of the core
  abbrev pub after_release : Seated T → Carried → Left T
  after_release s c = record {
    phases = s.phases;
    board = record s.board {
      occ = with_at s.board.occ c.place.core (s.board.occ c.place.core - release_sum c);
      views = views_with s.board s.seat s.weight (without_context s.known c);
    };
  }

  -- ---- threads come and go

  -- after a post: the mark word of the context is ready, and its slot at home with the value
  abbrev pub after_post : Seated T → Carried → T → Left T
  after_post s c value = record {
    phases = with_at s.phases c.context (settled c.place);
    board = record s.board {
      mark = with_at s.board.mark c.context (mark_word s.bits (marked_as mark.Ready c));
      home = with_at s.board.home c.context (slot.some (slot.some (Some value)));
      views = views_with s.board s.seat s.weight (posted s.known c (s.tag_in value));
    };
  }

  -- after a take: the mark word of the context is held, and its slot out with the seat
  abbrev pub after_take : Seated T → ℕ → T → Left T
  after_take s x value = record {
    phases = with_at s.phases x (taken_phase (mark_at s x).place);
    board = record s.board {
      mark = with_at s.board.mark x (mark_word s.bits (record (mark_at s x) { mark = mark.Held }));
      home = with_at s.board.home x (slot.some slot.none);
      views = views_with s.board s.seat s.weight (with_context s.known (taken_context x (mark_at s x) (s.tag_in value)));
    };
  }

  -- after keeping the name: the place word names the context, whose empty slot is at home
  abbrev pub after_keeping_name : Seated T → Carried → Left T
  after_keeping_name s c = record {
    phases = with_at s.phases c.context (record (s.phases c.context) { named = true; away = false });
    board = record s.board {
      name = with_name s.board.name c.place c.context;
      home = with_at s.board.home c.context (slot.some (slot.some None));
      views = views_with s.board s.seat s.weight (with_context s.known (record c { named = true; away = false }));
    };
  }

  -- after a retire: the mark word of the context is free, of the next generation, and its empty slot at home
  abbrev pub after_retire : Seated T → Carried → Left T
  after_retire s c = record {
    phases = with_at s.phases c.context (settled c.place);
    board = record s.board {
      mark = with_at s.board.mark c.context (mark_word s.bits (marked_free (claimed_again c)));
      home = with_at s.board.home c.context (slot.some (slot.some None));
      views = views_with s.board s.seat s.weight (retired s.known c);
    };
  }

  -- after a last retire: the mark word of the context is spent, and its empty slot at home
  abbrev pub after_last_retire : Seated T → Carried → Left T
  after_last_retire s c = record {
    phases = with_at s.phases c.context (record (s.phases c.context) { away = false });
    board = record s.board {
      mark = with_at s.board.mark c.context (mark_word s.bits (marked_spent c));
      home = with_at s.board.home c.context (slot.some (slot.some None));
      views = views_with s.board s.seat s.weight (spent_known s.known c);
    };
  }

  -- ---- cores

  -- the board on which the core has this word
  abbrev pub with_word : Board T → ℕ → ℕ → Board T
  with_word b core word = record b { occ = with_at b.occ core word }

  -- ---- rest and wake

  -- after a put-back: the mark word of the context has the mark of a thread at rest, and its slot is at home with the
  -- value
  abbrev pub after_rest : Mark → Seated T → Carried → T → Left T
  after_rest m s c value = record {
    phases = with_at s.phases c.context (record (s.phases c.context) { away = false });
    board = record s.board {
      mark = with_at s.board.mark c.context (mark_word s.bits (marked_as m c));
      home = with_at s.board.home c.context (slot.some (slot.some (Some value)));
      views = views_with s.board s.seat s.weight (without_context s.known c);
    };
  }

  -- after a put-back as ready
  abbrev pub after_rest_ready : Seated T → Carried → T → Left T
  after_rest_ready = after_rest mark.Ready

  -- after a put-back as blocked
  abbrev pub after_rest_blocked : Seated T → Carried → T → Left T
  after_rest_blocked = after_rest mark.Blocked

  -- after a wake: the mark word of the context has another mark
  abbrev pub after_wake : Mark → Seated T → ℕ → Left T
  after_wake m s x = record {
    phases = s.phases;
    board = record s.board {
      mark = with_at s.board.mark x (mark_word s.bits (record (mark_at s x) { mark = m }));
      views = views_with s.board s.seat s.weight s.known;
    };
  }

  -- ---- a move

  -- after a move: the mark word of context x has the place of c, and c stands at the place at which x stood
  abbrev pub after_move : Seated T → ℕ → Carried → Left T
  after_move s x c = record {
    phases = moved_phase s.phases x c.context c.place;
    board = record s.board {
      mark = with_at s.board.mark x (mark_word s.bits (record (mark_at s x) { place = c.place }));
      views = views_with s.board s.seat s.weight (with_context s.known (left_context c (mark_at s x).place));
    };
  }

  -- after naming the target: the place word names the context
  abbrev pub after_naming_target : Seated T → Place → ℕ → Left T
  after_naming_target s p x = record { phases = s.phases; board = record s.board { name = with_name s.board.name p x } }

  -- after replacing: the mark word of the context shows its place
  abbrev pub after_replacing : Seated T → Carried → Left T
  after_replacing s c = record {
    phases = with_at s.phases c.context (record (s.phases c.context) { shown = c.place });
    board = record s.board {
      mark = with_at s.board.mark c.context (mark_word s.bits (marked_free c));
      views = views_with s.board s.seat s.weight (with_context s.known (record c { shown = c.place }));
    };
  }

  -- after naming the source: the place word of the context's place names it
  abbrev pub after_naming_source : Seated T → Carried → Left T
  after_naming_source s c = record {
    phases = with_at s.phases c.context (record (s.phases c.context) { named = true });
    board = record s.board {
      name = with_name s.board.name c.place c.context;
      views = views_with s.board s.seat s.weight (with_context s.known (record c { named = true }));
    };
  }

  -- ---- seats

  -- after a split: the first part is in the seat's place, and the second is behind all others
  abbrev pub after_split : Seated T → Left T
  after_split s = record {
    phases = s.phases;
    board = record s.board { views = slice_set s.board.views s.seat (first_seat (held s.weight s.known)) ++ second_seat (held s.weight s.known) ∷ [] };
  }

  -- after a join: the seat is both together, and the other is spent
  abbrev pub after_join : Seated T → ℕ → ℕ → Known → Left T
  after_join s other added o = record {
    phases = s.phases;
    board = record s.board {
      views = slice_set (slice_set s.board.views s.seat (joined_seat (held s.weight s.known) (held added o))) other (spent blank);
    };
  }
