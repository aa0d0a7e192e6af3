-- What an executor's seat may do on its table, with the words and masks that a call has computed.
use Rattle.std.proofs.Common.{◌≡◌, ℕ, ◌+◌, ◌-◌, ◌*◌, ◌/◌, ◌%◌, ◌^◌, ◌<◌, ◌≤◌, [], ◌∷◌, true, eqb, refl, sym, ap, ◌∙◌, subst, arith, eqb-true}
use Rattle.std.specs.Int.{bit_at, RustNames.{bit_and, bit_or}}
use Rattle.std.proofs.lemmas.Nat.Bits.{shr_and_one}
use mathlib.Core.Option.{none}
use prog.Atomic.{either}
use Rattle.atomic_table.specs.{Seated.TableId, Table.{step, rest, Allows, Splits, Joins}}
use Rattle.arachne_weights.specs.{declared.token.Token.Token, Tokens.{held, spent}}
use Rattle.arachne_exec.specs.declared.view.Notes.{Notes}
use Rattle.arachne_exec.specs.Layout.{summary_at, ready_at, free_at, mark_at, last_generation, retired, worker_of, others, words_of}
use Rattle.arachne_exec.specs.{Board.{IsLawful, IsLast}, Changes.{blank, older, first_of, second_of, both_of}}
use Rattle.arachne_exec.specs.Steps.{Mine, IsLive, Looks, Takes, TakesMany, Claims, Frees, Readies, Spawns, Begins, Blocks, Renews, Retires, Hears, Wakes, Marks, FindsShown, Shows, Hides, LooksAgain, LooksIdle, Unparks, Rises, Rests, LooksNext, Registers, Leaves}
use Rattle.arachne_exec.specs.Seats.{Places, IsLaidOut, CallView, HasNewest, HasFoundMark}
use Rattle.arachne_exec.proofs.Opening.{deals, gathers}
use Rattle.arachne_exec.proofs.Moves.{looks, takes_ready, claims, frees, readies, spawns, begins, blocks_at, renews, retires, hears_wake, wakes, marks}
use Rattle.arachne_exec.proofs.Many.{takes_many}
use Rattle.arachne_exec.proofs.SleepMoves.{finds_shown, shows, hides, looks_again, looks_idle, unparks, rises, rests, looks_next, registers, leaves}

-- a bit that is tested
pub bit_true : (n i : ℕ) → eqb (bit_and (n / 2 ^ i) 1) 1 ≡ true → bit_at n i ≡ 1
bit_true n i e = sym (shr_and_one n i) ∙ eqb-true (bit_and (n / 2 ^ i) 1) 1 e

module _ (table : TableId) (key n : ℕ) (laid : IsLaidOut table key n) (exec : Places) (is : record { table = table; shards = n } ≡ exec) (home : TableId) (id : ℕ) (me : Mine) (live : IsLive me) (view : CallView)
    (seen : record { table = home; weight = me.0.weight; known = me.0.known; slots = me.1 } ≡ view) (own : view.table ≡ exec.table) where
  pub at-home : home ≡ table
  at-home = ap (λ (v : CallView). v.table) seen ∙ own ∙ sym (ap (λ (e : Places). e.table) is)

  count : n ≡ exec.shards
  count = ap (λ (e : Places). e.shards) is

  known-is : me.0.known ≡ view.known
  known-is = ap (λ (v : CallView). v.known) seen

  whole : me ≡ (held me.0.weight me.0.known, me.1)
  whole = λ i. (live i, me.1)

  abbrev pub Asks : ℕ → (ℕ → ℕ) → (ℕ → Mine → Type 0) → Type 0
  Asks word f then = (home ≡ table) × (word < table.words) × Allows (IsLawful key) table.slots id me word f then

  pub look-asks : (word : ℕ) → word < words_of (64 * exec.shards) → view.known.unshown ≡ 0 → Asks word (λ x. x) (Looks (step table.slots word 0 0 none) me)
  look-asks word inside calm = (
    at-home,
    omega (arith, laid.words, inside, count),
    subst (λ (m : Mine). Allows (IsLawful key) table.slots id m word (λ x. x) (Looks (step table.slots word 0 0 none) m)) (sym whole) (looks key table.slots id me.0.weight me.0.known me.1 word (ap (λ (k : Notes). k.unshown) known-is ∙ calm)),
  )

  -- ---- the words of a place

  module _ (q : ℕ) (inside : q < 4096 * exec.shards) (word : ℕ) where
    low : q < 64 * (64 * key)
    low = omega (arith, inside, laid.keyed, count)

    ready-inside : word ≡ ready_at (q / 64) → word < table.words
    ready-inside e = omega (arith, laid.words, inside, e, count)

    free-inside : word ≡ free_at (q / 64) → word < table.words
    free-inside e = omega (arith, laid.words, inside, e, count)

    mark-inside : word ≡ mark_at q → word < table.words
    mark-inside e = omega (arith, laid.words, inside, e, count)

    pub take-asks : (mask : ℕ) → word ≡ ready_at (q / 64) → mask ≡ others (q % 64) → Asks word (λ x. bit_and x mask) (Takes (step table.slots word mask 0 none) me)
    take-asks mask e o = (
      at-home,
      ready-inside e,
      subst (λ (z : ℕ × ℕ × Mine). Allows (IsLawful key) table.slots id z.2 z.0 (λ x. bit_and x z.1) (Takes (step table.slots z.0 z.1 0 none) z.2)) (λ i. (sym e i, sym o i, sym whole i))
          (takes_ready key table.slots id me.0.weight me.0.known me.1 q low),
    )

    pub claim-asks : view.known.unspawned ≡ 0 → (mask : ℕ) → word ≡ free_at (q / 64) → mask ≡ others (q % 64) → Asks word (λ x. bit_and x mask) (Claims (step table.slots word mask 0 none) me)
    claim-asks spawned mask e o = (
      at-home,
      free-inside e,
      subst (λ (z : ℕ × ℕ × Mine). Allows (IsLawful key) table.slots id z.2 z.0 (λ x. bit_and x z.1) (Claims (step table.slots z.0 z.1 0 none) z.2)) (λ i. (sym e i, sym o i, sym whole i))
          (claims key table.slots id me.0.weight me.0.known me.1 q low (ap (λ (k : Notes). k.unspawned) known-is ∙ spawned)),
    )

    module _ (x y : ℕ) (has : HasNewest q x y view) where
      hand : me.0.known.hand ≡ (q, x) ∷ older me.0.known.hand
      hand = subst (λ (k : Notes). k.hand ≡ (q, x) ∷ older k.hand) (sym known-is) has.hand

      mine : me ≡ (held me.0.weight me.0.known, (q, y) ∷ rest view.slots)
      mine = λ i. (live i, (ap (λ (v : CallView). v.slots) seen ∙ has.slot) i)

      pub hear-asks : word ≡ mark_at q → Asks word (λ z. bit_and z (2 ^ 64 - 1 - 3)) (Hears (step table.slots word (2 ^ 64 - 1 - 3) 0 none) me)
      hear-asks e = (
        at-home,
        mark-inside e,
        subst (λ (z : ℕ × Mine). Allows (IsLawful key) table.slots id z.1 z.0 (λ a. bit_and a (2 ^ 64 - 1 - 3)) (Hears (step table.slots z.0 (2 ^ 64 - 1 - 3) 0 none) z.1)) (λ i. (sym e i, sym mine i))
            (hears_wake key table.slots id me.0.weight me.0.known q x (rest view.slots) hand low y),
      )

      pub renew-asks : (new next : ℕ) → word ≡ mark_at q → new ≡ 4 * next → (next < 2 ^ 44) × HasFoundMark q (λ mark. next ≡ mark / 4 + 1) view.known → Asks word (λ _. new) (Renews (step table.slots word new 0 none) me)
      renew-asks new next e now has_found = let mark : ℕ = has_found.1.0 in let is = has_found.1.3 in (
        at-home,
        mark-inside e,
        subst (λ (z : ℕ × Mine). Allows (IsLawful key) table.slots id z.1 z.0 (λ _. new) (Renews (step table.slots z.0 new 0 none) z.1)) (λ i. (sym e i, sym mine i))
            (renews key table.slots id me.0.weight me.0.known q x (rest view.slots) hand low mark has_found.1.1 (known-is ∙ has_found.1.2) y new (omega (arith, has_found.0, is)) (omega (arith, now, is))),
      )

    pub free-asks : HasNewest q 0 0 view → (mask : ℕ) → word ≡ free_at (q / 64) → mask ≡ 2 ^ (q % 64) → Asks word (λ z. bit_or z mask) (Frees (step table.slots word mask 0 none) me)
    free-asks has mask e o = (
      at-home,
      free-inside e,
      subst (λ (z : ℕ × ℕ × Mine). Allows (IsLawful key) table.slots id z.2 z.0 (λ a. bit_or a z.1) (Frees (step table.slots z.0 z.1 0 none) z.2)) (λ i. (sym e i, sym o i, sym (mine 0 0 has) i))
          (frees key table.slots id me.0.weight me.0.known q 0 (rest view.slots) (hand 0 0 has) low refl),
    )

    module _ (x : ℕ) where
      pub ready-asks : HasNewest q x x view → view.known.unshown ≡ 0 → (mask : ℕ) → word ≡ ready_at (q / 64) → mask ≡ 2 ^ (q % 64) → Asks word (λ z. bit_or z mask) (Readies (step table.slots word mask 0 none) me)
      ready-asks has shown mask e o = (
        at-home,
        ready-inside e,
        subst (λ (z : ℕ × ℕ × Mine). Allows (IsLawful key) table.slots id z.2 z.0 (λ a. bit_or a z.1) (Readies (step table.slots z.0 z.1 0 none) z.2)) (λ i. (sym e i, sym o i, sym (mine x x has) i))
            (readies key table.slots id me.0.weight me.0.known q x (rest view.slots) (hand x x has) low (ap (λ (k : Notes). k.unshown) known-is ∙ shown)),
      )

      pub spawn-asks : HasNewest q 0 x view → view.known.unspawned ≡ q + 1 → IsLast (mark_at q) view.known.looks → view.known.unshown ≡ 0 → (mask : ℕ) → word ≡ ready_at (q / 64) → mask ≡ 2 ^ (q % 64) → Asks word (λ z. bit_or z mask) (Spawns (step table.slots word mask 0 none) me)
      spawn-asks has claimed named shown mask e o = (
        at-home,
        ready-inside e,
        subst (λ (z : ℕ × ℕ × Mine). Allows (IsLawful key) table.slots id z.2 z.0 (λ a. bit_or a z.1) (Spawns (step table.slots z.0 z.1 0 none) z.2)) (λ i. (sym e i, sym o i, sym (mine 0 x has) i))
            (spawns key table.slots id me.0.weight me.0.known q x (rest view.slots) (hand 0 x has) low (ap (λ (k : Notes). k.unspawned) known-is ∙ claimed) (subst (λ (k : Notes). IsLast (mark_at q) k.looks) (sym known-is) named)
            (ap (λ (k : Notes). k.unshown) known-is ∙ shown)),
      )

      pub begin-asks : HasNewest q 0 x view → view.known.unspawned ≡ q + 1 → word ≡ mark_at q → Asks word (λ z. z) (Begins (step table.slots word 0 0 none) me)
      begin-asks has claimed e = (
        at-home,
        mark-inside e,
        subst (λ (m : Mine). Allows (IsLawful key) table.slots id m word (λ z. z) (Begins (step table.slots word 0 0 none) m)) (sym (mine 0 x has))
            (begins key table.slots id me.0.weight me.0.known q x (rest view.slots) word (hand 0 x has) (ap (λ (k : Notes). k.unspawned) known-is ∙ claimed) e),
      )

      pub block-asks : HasNewest q x x view → (old new : ℕ) → word ≡ mark_at q → old % 4 ≡ 0 → new ≡ old + 2 → Asks word (λ z. either (eqb z old) new z) (Blocks (step table.slots word old new none) me)
      block-asks has old new e was now = (
        at-home,
        mark-inside e,
        subst (λ (z : ℕ × Mine). Allows (IsLawful key) table.slots id z.1 z.0 (λ a. either (eqb a old) new a) (Blocks (step table.slots z.0 old new none) z.1)) (λ i. (sym e i, sym (mine x x has) i))
            (blocks_at key table.slots id me.0.weight me.0.known q x (rest view.slots) (hand x x has) low old new was now),
      )

      pub retire-asks : HasNewest q x 0 view → HasFoundMark q (λ mark. last_generation ≤ mark / 4 + 1) view.known → (new : ℕ) → word ≡ mark_at q → new ≡ retired
          → Asks word (λ _. new) (Retires (step table.slots word new 0 none) me)
      retire-asks has has_found new e gone = (
        at-home,
        mark-inside e,
        subst (λ (z : ℕ × Mine). Allows (IsLawful key) table.slots id z.1 z.0 (λ _. new) (Retires (step table.slots z.0 new 0 none) z.1)) (λ i. (sym e i, sym (mine x 0 has) i))
            (retires key table.slots id me.0.weight me.0.known q x (rest view.slots) (hand x 0 has) low has_found.0 has_found.1 (known-is ∙ has_found.2) new has_found.3 gone),
      )

    pub wake-asks : (old new : ℕ) → word ≡ mark_at q → old % 4 ≡ 2 → new ≡ old - 2 → Asks word (λ z. either (eqb z old) new z) (Wakes (step table.slots word old new none) me)
    wake-asks old new e was now = (
      at-home,
      mark-inside e,
      subst (λ (z : ℕ × Mine). Allows (IsLawful key) table.slots id z.1 z.0 (λ a. either (eqb a old) new a) (Wakes (step table.slots z.0 old new none) z.1)) (λ i. (sym e i, sym whole i))
          (wakes key table.slots id me.0.weight me.0.known me.1 q low old new was now),
    )

    pub mark-asks : (old new : ℕ) → word ≡ mark_at q → old % 4 ≡ 0 → new ≡ old + 1 → Asks word (λ z. either (eqb z old) new z) (Marks (step table.slots word old new none) me)
    mark-asks old new e was now = (
      at-home,
      mark-inside e,
      subst (λ (z : ℕ × Mine). Allows (IsLawful key) table.slots id z.1 z.0 (λ a. either (eqb a old) new a) (Marks (step table.slots z.0 old new none) z.1)) (λ i. (sym e i, sym whole i))
          (marks key table.slots id me.0.weight me.0.known me.1 q low old new was now),
    )

  -- ---- the ready word of a block

  pub take-many-asks : (block pick : ℕ) → block < 64 * exec.shards → pick < 2 ^ 64 → (word mask : ℕ) → word ≡ ready_at block → mask ≡ 2 ^ 64 - 1 - pick → Asks word (λ x. bit_and x mask) (TakesMany (step table.slots word mask 0 none) me)
  take-many-asks block pick inside low word mask e o = (
    at-home,
    omega (arith, laid.words, inside, e, count),
    subst (λ (z : ℕ × ℕ × Mine). Allows (IsLawful key) table.slots id z.2 z.0 (λ x. bit_and x z.1) (TakesMany (step table.slots z.0 z.1 0 none) z.2)) (λ i. (sym e i, sym o i, sym whole i))
        (takes_many key table.slots id me.0.weight me.0.known me.1 block pick (omega (arith, inside, laid.keyed, count)) low),
  )

  -- ---- the summary words

  module _ (block : ℕ) (inside : block < 64 * exec.shards) (word : ℕ) where
    within : block < 64 * key
    within = omega (arith, inside, laid.keyed, count)

    unshown-is : view.known.unshown ≡ block + 1 → me.0.known.unshown ≡ block + 1
    unshown-is e = ap (λ (k : Notes). k.unshown) known-is ∙ e

    pub find-shown-asks : view.known.unshown ≡ block + 1 → word ≡ summary_at (block / 64) → Asks word (λ z. z) (FindsShown (step table.slots word 0 0 none) me)
    find-shown-asks debt e = (
      at-home,
      omega (arith, laid.words, inside, e, count),
      subst (λ (z : ℕ × Mine). Allows (IsLawful key) table.slots id z.1 z.0 (λ a. a) (FindsShown (step table.slots z.0 0 0 none) z.1)) (λ i. (sym e i, sym whole i))
          (finds_shown key table.slots id me.0.weight me.0.known me.1 block within (unshown-is debt)),
    )

    pub show-asks : (mask : ℕ) → view.known.unshown ≡ block + 1 → view.known.owes ≡ 0 → word ≡ summary_at (block / 64) → mask ≡ 2 ^ (block % 64) → Asks word (λ z. bit_or z mask) (Shows (step table.slots word mask 0 none) me)
    show-asks mask debt free e o = (
      at-home,
      omega (arith, laid.words, inside, e, count),
      subst (λ (z : ℕ × ℕ × Mine). Allows (IsLawful key) table.slots id z.2 z.0 (λ a. bit_or a z.1) (Shows (step table.slots z.0 z.1 0 none) z.2)) (λ i. (sym e i, sym o i, sym whole i))
          (shows key table.slots id me.0.weight me.0.known me.1 block within (unshown-is debt) (ap (λ (k : Notes). k.owes) known-is ∙ free)),
    )

    pub hide-asks : (mask : ℕ) → view.known.unshown ≡ 0 → word ≡ summary_at (block / 64) → mask ≡ others (block % 64) → Asks word (λ z. bit_and z mask) (Hides (step table.slots word mask 0 none) me)
    hide-asks mask free e o = (
      at-home,
      omega (arith, laid.words, inside, e, count),
      subst (λ (z : ℕ × ℕ × Mine). Allows (IsLawful key) table.slots id z.2 z.0 (λ a. bit_and a z.1) (Hides (step table.slots z.0 z.1 0 none) z.2)) (λ i. (sym e i, sym o i, sym whole i))
          (hides key table.slots id me.0.weight me.0.known me.1 block within (ap (λ (k : Notes). k.unshown) known-is ∙ free)),
    )

    pub look-again-asks : view.known.unshown ≡ block + 1 → word ≡ ready_at block → Asks word (λ z. z) (LooksAgain (step table.slots word 0 0 none) me)
    look-again-asks debt e = (
      at-home,
      omega (arith, laid.words, inside, e, count),
      subst (λ (z : ℕ × Mine). Allows (IsLawful key) table.slots id z.1 z.0 (λ a. a) (LooksAgain (step table.slots z.0 0 0 none) z.1)) (λ i. (sym e i, sym whole i))
          (looks_again key table.slots id me.0.weight me.0.known me.1 block within (unshown-is debt)),
    )

  -- ---- the idle word and the worker numbers

  pub look-idle-asks : (shard : ℕ) → view.known.owes ≡ shard + 1 → Asks 0 (λ z. z) (LooksIdle (step table.slots 0 0 0 none) me)
  look-idle-asks shard debt = (
    at-home,
    omega (arith, laid.words),
    subst (λ (m : Mine). Allows (IsLawful key) table.slots id m 0 (λ a. a) (LooksIdle (step table.slots 0 0 0 none) m)) (sym whole)
        (looks_idle key table.slots id me.0.weight me.0.known me.1 shard (ap (λ (k : Notes). k.owes) known-is ∙ debt)),
  )

  pub unpark-asks : (shard mask : ℕ) → view.known.owes ≡ shard + 1 → mask ≡ others (worker_of shard) → Asks 0 (λ z. bit_and z mask) (Unparks (step table.slots 0 mask 0 none) me)
  unpark-asks shard mask debt o = (
    at-home,
    omega (arith, laid.words),
    subst (λ (z : ℕ × Mine). Allows (IsLawful key) table.slots id z.1 0 (λ a. bit_and a z.0) (Unparks (step table.slots 0 z.0 0 none) z.1)) (λ i. (sym o i, sym whole i))
        (unparks key table.slots id me.0.weight me.0.known me.1 shard (ap (λ (k : Notes). k.owes) known-is ∙ debt)),
  )

  module _ (worker mask : ℕ) where
    pub rise-asks : view.known.worker ≡ worker + 1 → mask ≡ others worker → Asks 0 (λ z. bit_and z mask) (Rises (step table.slots 0 mask 0 none) me)
    rise-asks is_worker o = (
      at-home,
      omega (arith, laid.words),
      subst (λ (z : ℕ × Mine). Allows (IsLawful key) table.slots id z.1 0 (λ a. bit_and a z.0) (Rises (step table.slots 0 z.0 0 none) z.1)) (λ i. (sym o i, sym whole i))
          (rises key table.slots id me.0.weight me.0.known me.1 worker (ap (λ (k : Notes). k.worker) known-is ∙ is_worker)),
    )

    pub rest-asks : view.known.worker ≡ worker + 1 → mask ≡ 2 ^ worker → Asks 0 (λ z. bit_or z mask) (Rests (step table.slots 0 mask 0 none) me)
    rest-asks is_worker o = (
      at-home,
      omega (arith, laid.words),
      subst (λ (z : ℕ × Mine). Allows (IsLawful key) table.slots id z.1 0 (λ a. bit_or a z.0) (Rests (step table.slots 0 z.0 0 none) z.1)) (λ i. (sym o i, sym whole i))
          (rests key table.slots id me.0.weight me.0.known me.1 worker (ap (λ (k : Notes). k.worker) known-is ∙ is_worker)),
    )

    pub register-asks : view.known.worker ≡ 0 → worker < 64 → mask ≡ others worker → Asks 8 (λ z. bit_and z mask) (Registers (step table.slots 8 mask 0 none) me)
    register-asks none_yet small o = (
      at-home,
      omega (arith, laid.words),
      subst (λ (z : ℕ × Mine). Allows (IsLawful key) table.slots id z.1 8 (λ a. bit_and a z.0) (Registers (step table.slots 8 z.0 0 none) z.1)) (λ i. (sym o i, sym whole i))
          (registers key table.slots id me.0.weight me.0.known me.1 worker small (ap (λ (k : Notes). k.worker) known-is ∙ none_yet)),
    )

    pub leave-asks : view.known.worker ≡ worker + 1 → worker < 64 → mask ≡ 2 ^ worker → Asks 8 (λ z. bit_or z mask) (Leaves (step table.slots 8 mask 0 none) me)
    leave-asks is_worker small o = (
      at-home,
      omega (arith, laid.words),
      subst (λ (z : ℕ × Mine). Allows (IsLawful key) table.slots id z.1 8 (λ a. bit_or a z.0) (Leaves (step table.slots 8 z.0 0 none) z.1)) (λ i. (sym o i, sym whole i))
          (leaves key table.slots id me.0.weight me.0.known me.1 worker small (ap (λ (k : Notes). k.worker) known-is ∙ is_worker)),
    )

  pub next-asks : (word worker next : ℕ) → word ≡ summary_at (worker + 64 * next) → view.known.worker ≡ worker + 1 → worker + 64 * next < exec.shards → view.known.seen ≡ next → view.known.unshown ≡ 0
      → Asks word (λ z. z) (LooksNext (step table.slots word 0 0 none) me)
  next-asks word worker next e is_worker inside so_far calm = (
    at-home,
    omega (arith, laid.words, inside, e, count),
    subst (λ (z : ℕ × Mine). Allows (IsLawful key) table.slots id z.1 z.0 (λ a. a) (LooksNext (step table.slots z.0 0 0 none) z.1))
        (λ i. (sym (e ∙ ap (λ (c : ℕ). summary_at (worker + 64 * c)) (sym (ap (λ (k : Notes). k.seen) known-is ∙ so_far))) i, sym whole i))
        (looks_next key table.slots id me.0.weight me.0.known me.1 worker (ap (λ (k : Notes). k.worker) known-is ∙ is_worker) (ap (λ (k : Notes). k.unshown) known-is ∙ calm)),
  )

-- ---- seats

pub split-allowed : (key id : ℕ) (me : Mine) → IsLive me → Splits (IsLawful key) id me.0 (first_of me.0) (second_of me.0)
split-allowed key id me live = subst (λ (t : Token Notes). Splits (IsLawful key) id t (first_of t) (second_of t)) (sym live) (deals key id me.0.weight me.0.known)

pub join-allowed : (key id from : ℕ) (me other : Mine) → IsLive me → IsLive other → (other.0.known.hand ≡ []) × (other.0.known.worker ≡ 0) × (other.0.known.unspawned ≡ 0) × (other.0.known.unshown ≡ 0) × (other.0.known.owes ≡ 0)
    → Joins (IsLawful key) id me.0 from other.0 (both_of me.0 other.0) (spent blank)
join-allowed key id from me other live away nothing =
    subst (λ (t : Token Notes × Token Notes). Joins (IsLawful key) id t.0 from t.1 (both_of t.0 t.1) (spent blank)) (λ i. (sym live i, sym away i))
    (gathers key id me.0.weight from other.0.weight me.0.known other.0.known nothing)
