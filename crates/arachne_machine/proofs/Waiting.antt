-- Turns keep the order in which threads wait for each other.
use Rattle.std.proofs.Common.{◌≡◌, ◌<◌, ℕ, List, [], ◌∷◌, ◌++◌, length, map, reverse, None, Some, refl, ap, sym, ◌∙◌, subst, arith, slice_get, option_map, IsSome}
use Rattle.std.proofs.lemmas.List.{length-map, length-reverse, reverse-append}
use Rattle.arachne_program.specs.declared.program.{Class.Class, Program.Program}
use Rattle.arachne_machine.specs.{Outcome.Finished, Suspended.{Suspended, SameThread, IsFresh, Forked, Joined, awaited}}
use Rattle.arachne_machine.specs.{Nested.{Nested, IsAlone, pending_in}, Alone.{key, childs_keys, Waits, Rests}}

pub waits_same : (program : Program) (name name' : List ℕ) (threads : List Nested) (keys : List (Program × List ℕ)) → name' ≡ name →
    Waits program name threads keys → Waits program name' threads keys
waits_same program name name' threads keys e h = subst (λ n. Waits program n threads keys) (sym e) h

pub same_on : (a b c : Suspended) → SameThread a b → SameThread b c → SameThread a c
same_on a b c p q = record {
  program = q.program ∙ p.program;
  name = q.name ∙ p.name;
  label = q.label ∙ p.label;
  forks = q.forks ∙ p.forks;
  unjoined = q.unjoined ∙ p.unjoined;
  here = q.here ∙ p.here;
  below = q.below ∙ p.below;
}

brought_same : (program : Program) (old new : Suspended) (keys rest : List (Program × List ℕ)) → SameThread old new →
    keys ≡ childs_keys program old.name old.unjoined ++ rest → keys ≡ childs_keys program new.name new.unjoined ++ rest
brought_same program old new keys rest same e =
    e ∙ ap (λ n. childs_keys program n old.unjoined ++ rest) (sym same.name) ∙ ap (λ l. childs_keys program new.name l ++ rest) (sym same.unjoined)

-- the thread is the same to those that wait for it
pub rests_same : (program : Program) (old new : Nested) (threads : List Nested) (keys : List (Program × List ℕ)) →
    SameThread old.running new.running → IsAlone new → pending_in new ≡ None → Rests program (old ∷ threads) keys → Rests program (new ∷ threads) keys
rests_same program old new threads keys same alone running (newest, waits) = (
  record {
    alone = alone;
    same_program = same.program ∙ newest.same_program;
    running = running;
    rest = newest.rest;
    brought = brought_same program old.running new.running keys newest.rest same newest.brought;
  },
  waits_same program old.running.name new.running.name threads newest.rest same.name waits,
)

-- a child goes on, and the thread waits for it
pub rests_fork : (program : Program) (budget : ℕ) (class : Class) (old new child : Nested) (mid : Suspended) (threads : List Nested) (keys : List (Program × List ℕ)) →
    Forked budget class old.running mid child.running → SameThread mid new.running → IsAlone new → pending_in new ≡ None → IsAlone child → pending_in child ≡ None →
    Rests program (old ∷ threads) keys → Rests program (child ∷ new ∷ threads) keys
rests_fork program budget class old new child mid threads keys forked same alone running childs_place begins (newest, waits) =
    let is_name : new.running.name ≡ old.running.name = same.name ∙ forked.name in (
      record {
        alone = childs_place;
        same_program = forked.fresh.same_program ∙ newest.same_program;
        running = begins;
        rest = keys;
        brought = ap (λ l. childs_keys program child.running.name l ++ keys) (sym forked.fresh.none_unjoined);
      },
      (
        record {
          alone = alone;
          same_program = same.program ∙ forked.program ∙ newest.same_program;
          running = running;
          number = old.running.forks;
          others = old.running.unjoined;
          unjoined = same.unjoined ∙ forked.unjoined;
          named = forked.fresh.has_name ∙ ap (λ n. n ++ old.running.forks ∷ []) (sym is_name);
          rest = newest.rest;
          brought = newest.brought ∙ ap (λ n. childs_keys program n old.running.unjoined ++ newest.rest) (sym is_name);
        },
        waits_same program old.running.name new.running.name threads newest.rest is_name waits,
      ),
    )

first_of : (l : List ℕ) (name : List ℕ) → IsSome (option_map (λ number. name ++ number ∷ []) (slice_get l 0)) → (n : ℕ) × (others : List ℕ) × (l ≡ n ∷ others)
first_of [] name h = cc
first_of (n ∷ others) name h = (n, others, refl)

-- the needs of a thread that joins, and its state after the join
pub record IsReady (program : Program) (mid : Suspended) (threads : List Nested) (outcome : Finished) (keys : List (Program × List ℕ)) : Type 0 where
  pub of_program : outcome.program ≡ program
  pub of_child : awaited mid ≡ Some outcome.name
  pub goes_on : (new : Nested) → IsAlone new → pending_in new ≡ None → Joined mid outcome new.running → Rests program (new ∷ threads) keys

same_first : (x y : Program × List ℕ) (xs ys : List (Program × List ℕ)) → x ∷ xs ≡ y ∷ ys → (x ≡ y) × (xs ≡ ys)
same_first x y xs ys h = (cc, cc)

pub ready : (program : Program) (old : Nested) (mid : Suspended) (threads : List Nested) (outcome : Finished) (keys : List (Program × List ℕ)) →
    SameThread old.running mid → IsSome (awaited mid) → Rests program (old ∷ threads) (key outcome ∷ keys) → IsReady program mid threads outcome keys
ready program old mid threads outcome keys same some (newest, waits) =
    let first = first_of mid.unjoined mid.name some in
    let n = first.0 in
    let others = first.1 in
    let brought : key outcome ∷ keys ≡ (program, mid.name ++ n ∷ []) ∷ (childs_keys program mid.name others ++ newest.rest) =
    brought_same program old.running mid (key outcome ∷ keys) newest.rest same newest.brought ∙ ap (λ l. childs_keys program mid.name l ++ newest.rest) first.2 in
    let both = same_first (key outcome) (program, mid.name ++ n ∷ []) keys (childs_keys program mid.name others ++ newest.rest) brought in
    record {
      of_program = ap (λ k. k.0) both.0;
      of_child = ap (λ l. option_map (λ number. mid.name ++ number ∷ []) (slice_get l 0)) first.2 ∙ ap (λ k. Some k.1) (sym both.0);
      goes_on = λ new alone running joined.
          let left : others ≡ new.running.unjoined = cc (sym first.2 ∙ joined.unjoined.1) in (
            record {
              alone = alone;
              same_program = joined.program ∙ same.program ∙ newest.same_program;
              running = running;
              rest = newest.rest;
              brought = both.1 ∙ ap (λ m. childs_keys program m others ++ newest.rest) (sym joined.name) ∙ ap (λ l. childs_keys program new.running.name l ++ newest.rest) left;
            },
            waits_same program old.running.name new.running.name threads newest.rest (joined.name ∙ same.name) waits,
          );
    }

-- a thread has ended, and its outcome waits to be joined
pub rests_end : (program : Program) (old : Nested) (mid : Suspended) (threads : List Nested) (end : Program) (name : List ℕ) (keys : List (Program × List ℕ)) →
    SameThread old.running mid → mid.unjoined ≡ [] → end ≡ mid.program → name ≡ mid.name →
    Rests program (old ∷ threads) keys → Rests program threads ((end, name) ∷ keys)
rests_end program old mid [] end name keys same none is_program is_name (newest, waits) =
    let keys_are : keys ≡ newest.rest = newest.brought ∙ ap (λ l. childs_keys program old.running.name l ++ newest.rest) (sym same.unjoined ∙ none) in
    ap (λ p. (p, name) ∷ keys) (is_program ∙ same.program ∙ newest.same_program)
    ∙ ap (λ n. (program, n) ∷ keys) (is_name ∙ same.name ∙ waits.0) ∙ ap (λ l. (program, []) ∷ l) (keys_are ∙ waits.1)
rests_end program old mid (thread ∷ threads) end name keys same none is_program is_name (newest, waits) =
    let parent = waits.0 in
    let keys_are : keys ≡ newest.rest = newest.brought ∙ ap (λ l. childs_keys program old.running.name l ++ newest.rest) (sym same.unjoined ∙ none) in (
      record {
        alone = parent.alone;
        same_program = parent.same_program;
        running = parent.running;
        rest = parent.rest;
        brought =
            ap (λ p. (p, name) ∷ keys) (is_program ∙ same.program ∙ newest.same_program)
            ∙ ap (λ n. (program, n) ∷ keys) (is_name ∙ same.name ∙ parent.named)
            ∙ ap (λ l. (program, thread.running.name ++ parent.number ∷ []) ∷ l) (keys_are ∙ parent.brought)
            ∙ ap (λ l. childs_keys program thread.running.name l ++ parent.rest) (sym parent.unjoined);
      },
      waits.1,
    )

-- only the root
pub rests_root : (program : Program) (tag : ℕ) (thread : Nested) → IsAlone thread → IsFresh program [] tag thread.running → Rests program (thread ∷ []) []
rests_root program tag thread alone fresh = (
  record {
    alone = alone;
    same_program = fresh.same_program;
    running = fresh.not_paused;
    rest = [];
    brought = ap (λ l. childs_keys program thread.running.name l ++ []) (sym fresh.none_unjoined);
  },
  (fresh.has_name, refl),
)

-- an answer leaves no other thread in the thread's place
pub alone_on : (old new : Nested) → IsAlone old → new.parents ≡ old.parents → new.placed ≡ old.placed → new.running.here ≡ old.running.here → IsAlone new
alone_on old new alone parents placed here = (parents ∙ alone.0, placed ∙ alone.1, here ∙ alone.2)

pub pushed : {A : Type 0} → (xs ys : List A) (x : A) → ys ≡ xs ++ x ∷ [] → reverse ys ≡ x ∷ reverse xs
pushed xs ys x e = ap reverse e ∙ reverse-append xs (x ∷ [])

-- if a thread joins, an outcome is ready
pub some_outcome : (program : Program) (old : Nested) (mid : Suspended) (threads : List Nested) (outcomes : List Finished) → SameThread old.running mid → IsSome (awaited mid) →
    Rests program (old ∷ threads) (map key (reverse outcomes)) → 0 < length outcomes
some_outcome program old mid threads outcomes same some (newest, waits) =
    let first = first_of mid.unjoined mid.name some in
    let brought : map key (reverse outcomes) ≡ (program, mid.name ++ first.0 ∷ []) ∷ (childs_keys program mid.name first.1 ++ newest.rest) =
    brought_same program old.running mid (map key (reverse outcomes)) newest.rest same newest.brought ∙ ap (λ l. childs_keys program mid.name l ++ newest.rest) first.2 in
    omega (arith, ap length brought, length-map (reverse outcomes) key, length-reverse outcomes)
