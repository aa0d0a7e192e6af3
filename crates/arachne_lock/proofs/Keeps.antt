-- Each kind of step keeps the rule, and what it says of its seat is true.
use Rattle.std.proofs.Common.{◌≡◌, ◌≢◌, ℕ, zero, suc, ◌+◌, ◌<◌, ◌≤◌, ⊎_elim, List, [], ◌∷◌, ◌++◌, length, map, get_or, set, refl, sym, ap, ◌∙◌, subst, arith, length-append, length-set, get_or-set_same, get_or-set_other, None, Some, eqb, eq-eqb, ne_eqb, All, if◌then◌else◌, ◌==◌}
use Rattle.std.proofs.lemmas.Bool.Decides.{nat_tests}
use Rattle.std.proofs.lemmas.List.Elements.{All-nil, All-cons, All-head, All-tail, All-append, All-weaker}
use Rattle.std.proofs.lemmas.Option.{same_Some, none-some}
use mathlib.Core.{Option.{some, none, some-ne-none}, Logic.dite}
use mathlib.Core.Option as maybe
use native.Mathlib.Decide.{ℕ_discrete}
use lib.ListN.{get_elem?}
use prog.Atomic.{either}
use Rattle.atomic_table.specs.Table.{step, keeps, takes, gives, opening, Act, Valid, stepped, carried_after, Allows, Splits, Joins}
use Rattle.atomic_table.proofs.Lists.{at_set, at_snoc, set_here, set_else, exchanged}
use Rattle.arachne_weights.proofs.Totals.{total-set, total-snoc, at-le-total, two-le-total}
use Rattle.arachne_lock.specs.declared.{event.QueueEvent.QueueEvent, view.KnownLocks.KnownLocks}
use Rattle.arachne_lock.specs.declared.view.{LoggedEvent.LoggedEvent, EventLog.EventLog, Sight.Sight}
use Rattle.arachne_lock.specs.{History.IsSound, State.IsLeftBy}
use Rattle.arachne_lock.specs.Placed.{BeginsWith, placed, StandsIn, times_at, once_below}
use Rattle.arachne_lock.specs.{Logs.{sight, contended_log, taken_log, given_back_log}, Views.{Guarded, word_of}}
use Rattle.arachne_lock.specs.Rule.{Board, Histories, idle_known, taken_known, spent, is_of, guards, IsSeenIn, Fits, IsHome, HaveCome, begins, acts, splits, joins, IsKept, IsLawfulSeat, blank, first_view, split_view, second_view, joined_view, AreFirstSlots}
use Rattle.arachne_lock.specs.Steps.{Mine, idle, with_guard, HasTaken, Takes, GivesBack}
use Rattle.arachne_lock.proofs.Growing.{begins-refl, GoOn, seen-more, made-more, stands-placed, times-placed, times-elsewhere, times-append}

-- whether a seat has the lock's guard, and the number of events that it made at a place
abbrev guard_of : ℕ → KnownLocks → ℕ
guard_of lock v = is_of lock v.out

abbrev made_of : ℕ → ℕ → KnownLocks → ℕ
made_of lock at v = times_at lock at v.log.made

if-one : (lock : ℕ) → ◌≡◌ {A = ℕ} (if lock == lock then 1 else 0) 1
if-one lock = rw (eq-eqb lock lock refl) refl

if-none : (lock other : ℕ) → lock ≢ other → ◌≡◌ {A = ℕ} (if lock == other then 1 else 0) 0
if-none lock other apart = rw (ne_eqb lock other apart) refl

has-guard : (v : KnownLocks) (s : Sight) → v.out ≡ Some s → guard_of s.lock v ≡ 1
has-guard v s e = ap (is_of s.lock) e ∙ if-one s.lock

-- a seat agrees with histories that extend its own, if that of the lock whose guard it has stays
fits-more : (before now : Histories) → GoOn before now → (v : KnownLocks) → ((s : Sight) → v.out ≡ Some s → before s.lock ≡ now s.lock) → Fits before v → Fits now v
fits-more before now more v still f = record {
  seen = seen-more before now more v.log.seen f.seen;
  made = made-more before now more v.log.made f.made;
  at_guard = λ s e. f.at_guard s e ∙ still s e;
}

-- One seat made a step on a lock's guard word: its view has changed, and that lock's history may have been extended.
module _ (locks : ℕ) (s : Board) (kept : IsKept locks s) (lock : ℕ) (inside : lock < locks) (id : ℕ) (k k' : KnownLocks) (mine : get_elem? s.views id ≡ some k) where
  abbrev after_views : List KnownLocks
  after_views = set s.views id k'

  abbrev after_step : ℕ → List (maybe.Option Guarded) → Board
  after_step n homes = record { words = set s.words (word_of lock) n; homes = homes; views = after_views }

  guards-after : (j : ℕ) → guards j after_views + guard_of j k ≡ guards j s.views + guard_of j k'
  guards-after j = total-set (guard_of j) s.views id k k' mine

  -- if this seat has a lock's guard, no other has
  no-other : (mine_out : Sight) → k.out ≡ Some mine_out → mine_out.lock < locks → (i : ℕ) (v : KnownLocks) → i ≢ id → get_elem? s.views i ≡ some v → (theirs : Sight) → v.out ≡ Some theirs → theirs.lock ≡ mine_out.lock → ⊥
  no-other mine_out e below i v apart there theirs e' same =
      let two = two-le-total (guard_of mine_out.lock) s.views id i k v mine apart there in
      let one = has-guard k mine_out e in
      let other : guard_of mine_out.lock v ≡ 1 = subst (λ (j : ℕ). guard_of j v ≡ 1) same (has-guard v theirs e') in
      omega (arith, two, one, other, kept.one_guard mine_out.lock below)

  room : word_of lock < length s.words
  room = omega (arith, kept.counted, inside)

  word-here : (n : ℕ) → get_or (set s.words (word_of lock) n) (word_of lock) 0 ≡ n
  word-here n = get_or-set_same s.words (word_of lock) n 0 room

  word-else : (n j : ℕ) → j ≢ lock → get_or (set s.words (word_of lock) n) (word_of j) 0 ≡ get_or s.words (word_of j) 0
  word-else n j apart = get_or-set_other s.words (word_of lock) (word_of j) n 0 (λ e. apart (omega (arith, e)))

  one-seat-stepped : HaveCome after_views → (now : Histories) → GoOn kept.histories now → ((j : ℕ) → j ≢ lock → now j ≡ kept.histories j) → ((j : ℕ) → IsSound (now j))
      → ((i : ℕ) (v : KnownLocks) → i ≢ id → get_elem? s.views i ≡ some v → (o : Sight) → v.out ≡ Some o → kept.histories o.lock ≡ now o.lock)
      → Fits now k'
      → ((j at : ℕ) → times_at j at k'.log.made + once_below at (length (kept.histories j)) ≡ times_at j at k.log.made + once_below at (length (now j)))
      → (n : ℕ) (homes : List (maybe.Option Guarded)) → n + guard_of lock k ≡ guards lock s.views + guard_of lock k' → ((j : ℕ) → j ≢ lock → guard_of j k ≡ guard_of j k') → n ≤ 1
      → (n ≡ 0 → IsHome lock (now lock) homes)
      → ((j : ℕ) → j ≢ lock → get_elem? homes j ≡ get_elem? s.homes j)
      → IsKept locks (after_step n homes)
  one-seat-stepped come now more others sound still fit once n homes balance elsewhere few home same_homes = record {
    seats = come;
    histories = now;
    counted = length-set s.words (word_of lock) n ∙ kept.counted;
    sound = sound;
    fits = λ i v there.
        ⊎_elim (λ (x : (i ≡ id) × (k' ≡ v)). subst (Fits now) x.1 fit)
        (λ (x : (i ≢ id) × (get_elem? s.views i ≡ some v)). fits-more kept.histories now more v (still i v x.0 x.1) (kept.fits i v x.1))
        (at_set s.views id i k' v there);
    once = λ j at.
        let total = total-set (made_of j at) s.views id k k' mine in
        omega (arith, total, once j at, kept.once j at);
    guard = λ j below. dite (ℕ_discrete j lock)
        (λ same. subst (λ (x : ℕ). get_or (set s.words (word_of lock) n) (word_of x) 0 ≡ guards x after_views) (sym same) (word-here n ∙ omega (arith, guards-after lock, balance)))
        (λ apart. word-else n j apart ∙ kept.guard j below ∙ omega (arith, guards-after j, elsewhere j apart));
    one_guard = λ j below. dite (ℕ_discrete j lock)
        (λ same. subst (λ (x : ℕ). guards x after_views ≤ 1) (sym same) (omega (arith, guards-after lock, balance, few)))
        (λ apart. omega (arith, guards-after j, elsewhere j apart, kept.one_guard j below));
    home = λ j below e. dite (ℕ_discrete j lock)
        (λ same. subst (λ (x : ℕ). IsHome x (now x) homes) (sym same) (home (sym (word-here n) ∙ ap (λ (x : ℕ). get_or (set s.words (word_of lock) n) (word_of x) 0) (sym same) ∙ e)))
        (λ apart. let it = kept.home j below (sym (word-else n j apart) ∙ e) in
        (it.0, same_homes j apart ∙ it.1, subst (λ (h : List QueueEvent). IsLeftBy h it.0.lock) (sym (others j apart)) it.2));
  }

-- ---- the start

none-below : (k : ℕ) → once_below k 0 ≡ 0
none-below k = grind (arith, nat_tests)

home-first : (P : Guarded → Type 0) (xs : List Guarded) → All P xs → (i : ℕ) → i < length xs → (g : Guarded) × (get_elem? (map some xs) i ≡ some (some g)) × P g
home-first P [] all i below = absurd (omega (arith, below))
home-first P (x ∷ xs) all zero below = (x, refl, All-head P x xs all)
home-first P (x ∷ xs) all (suc i) below = home-first P xs (All-tail P x xs all) i (omega (arith, below))

pub opens : (locks : ℕ) (words : List ℕ) (slots : List Guarded) → length words ≡ word_of locks → ((i : ℕ) → get_or words i 0 ≡ 0) → AreFirstSlots locks slots
    → IsKept locks (opening words slots (first_view locks))
opens locks words slots sized clear first = record {
  seats = begins;
  histories = λ _. [];
  counted = sized;
  sound = λ _. record { lawful = tt; never_idle = λ _. refl };
  fits = λ i v there.
      ⊎_elim (λ (x : get_elem? [] i ≡ some v). absurd (some-ne-none v (sym x)))
      (λ (x : blank ≡ v). subst (Fits (λ _. [])) x (record {
        seen = All-nil (IsSeenIn (λ _. []));
        made = All-nil (StandsIn (λ _. []));
        at_guard = λ o e. absurd (none-some _ e);
      }))
      (at_snoc [] blank v i there);
  once = λ lock at. total-snoc (made_of lock at) [] blank ∙ sym (none-below at);
  guard = λ lock below. clear (word_of lock) ∙ sym (total-snoc (guard_of lock) [] blank);
  one_guard = λ lock below. let none_yet = total-snoc (guard_of lock) [] blank in omega (arith, none_yet);
  home = λ lock below e. home-first (λ (g : Guarded). IsLeftBy [] g.lock) slots first.1 lock (omega (arith, below, first.0));
}

-- a seat that made a step
stepped-there : (views : List KnownLocks) (id : ℕ) (k k' : KnownLocks) → get_elem? views id ≡ some k → get_elem? (set views id k') id ≡ some k'
stepped-there [] id k k' e = absurd (some-ne-none k (sym e))
stepped-there (v ∷ vs) zero k k' e = refl
stepped-there (v ∷ vs) (suc id) k k' e = stepped-there vs id k k' e

lawful-seat : (locks slots : ℕ) → slots ≡ locks → (board : Board) → IsKept locks board → (id : ℕ) (log : EventLog) → get_elem? board.views id ≡ some (idle_known log) → IsLawfulSeat slots log
lawful-seat locks slots one board kept id log there = record { board = board; kept = subst (λ (c : ℕ). IsKept c board) (sym one) kept; place = id; there = there }

-- ---- a guard is tried

pub takes-allowed : (locks slots id lock : ℕ) (l : EventLog) → lock < locks → slots ≡ locks
    → Allows (IsKept locks) slots id (idle l) (word_of lock) (λ n. either (eqb n 0) 1 n) (Takes (step slots (word_of lock) 0 1 none) (idle l))
takes-allowed locks slots id lock l inside one s kept long at wide =
    let n = get_or s.words (word_of lock) 0 in
    let h = kept.histories lock in
    let f = kept.fits id (idle_known l) at in
    exchanged n 0 1
    (λ (m : ℕ). (w : KnownLocks) × (a : Act Guarded) × Valid s.homes [] a × IsKept locks (stepped s (word_of lock) m id [] w a) × Takes (step slots (word_of lock) 0 1 none) (idle l) n (w, carried_after [] a))
    (λ home.
    let it = kept.home lock inside home in
    let g : Guarded = it.0 in
    let log = taken_log l lock h in (
      taken_known (sight lock h) log,
      takes lock g,
      it.1,
      one-seat-stepped locks s kept lock inside id (idle_known l) (taken_known (sight lock h) log) at (acts kept.seats id None (Some (sight lock h)) l log at refl) kept.histories (λ j. begins-refl (kept.histories j)) (λ j _. refl) kept.sound (λ i v _ _ o _. refl)
          (record {
            seen = All-cons (IsSeenIn kept.histories) (sight lock h) l.seen (begins-refl h) f.seen;
            made = f.made;
            at_guard = λ o e. subst (λ (x : Sight). x.history ≡ kept.histories x.lock) (same_Some _ _ e) refl;
          })
          (λ j k. refl) 1 (set s.homes lock none) (omega (arith, kept.guard lock inside, home, if-one lock)) (λ j apart. sym (if-none lock j (λ e. apart (sym e)))) (omega arith)
          (λ e. absurd (omega (arith, e))) (λ j apart. set_else s.homes lock j none apart),
      λ other elsewhere. let same : lock ≡ other = omega (arith, elsewhere) in
          subst (λ (x : ℕ). (n ≡ 0 → HasTaken x l (taken_known (sight lock h) log, (lock, g) ∷ [])) × (n ≢ 0 → ◌≡◌ {A = Mine} (taken_known (sight lock h) log, (lock, g) ∷ []) (idle (contended_log l x)) × IsLawfulSeat slots (contended_log l x))) same (
            (λ _. (
              h,
              g,
              refl,
              record {
                sound = kept.sound lock;
                left = it.2;
                begins = All-weaker (IsSeenIn kept.histories) (λ (x : Sight). x.lock ≡ lock → BeginsWith h x.history) (λ x b e. subst (λ (j : ℕ). BeginsWith (kept.histories j) x.history) e b) l.seen f.seen;
              },
            )),
            (λ ne. absurd (ne home)),
          ),
    ))
    (λ away. let seen : n ≡ 1 = omega (arith, away, kept.guard lock inside, kept.one_guard lock inside) in
    let next = one-seat-stepped locks s kept lock inside id (idle_known l) (idle_known (contended_log l lock)) at (acts kept.seats id None None l (contended_log l lock) at refl) kept.histories (λ j. begins-refl (kept.histories j)) (λ j _. refl) kept.sound (λ i v _ _ o _. refl)
    (record { seen = f.seen; made = f.made; at_guard = λ o e. absurd (none-some _ e) })
    (λ j k. refl) n s.homes (omega (arith, kept.guard lock inside)) (λ j apart. refl) (omega (arith, seen)) (λ e. absurd (away e)) (λ j apart. refl) in (
      idle_known (contended_log l lock),
      keeps,
      tt,
      next,
      λ other elsewhere. let same : lock ≡ other = omega (arith, elsewhere) in
          subst (λ (x : ℕ). (n ≡ 0 → HasTaken x l (idle (contended_log l lock))) × (n ≢ 0 → ◌≡◌ {A = Mine} (idle (contended_log l lock)) (idle (contended_log l x)) × IsLawfulSeat slots (contended_log l x))) same
          ((λ e. absurd (away e)), (λ _. (refl, lawful-seat locks slots one (stepped s (word_of lock) n id [] (idle_known (contended_log l lock)) keeps) next id (contended_log l lock) (stepped-there s.views id (idle_known l) (idle_known (contended_log l lock)) at)))),
    ))

-- ---- a guard is given back

-- the histories after that of one lock has changed
abbrev with_history : Histories → ℕ → List QueueEvent → Histories
with_history histories lock h j = if j == lock then h else histories j

history-here : (histories : Histories) (lock : ℕ) (h : List QueueEvent) → with_history histories lock h lock ≡ h
history-here histories lock h = rw (eq-eqb lock lock refl) refl

history-else : (histories : Histories) (lock : ℕ) (h : List QueueEvent) (j : ℕ) → j ≢ lock → with_history histories lock h j ≡ histories j
history-else histories lock h j apart = rw (ne_eqb j lock apart) refl

module _ (histories : Histories) (lock : ℕ) (h events : List QueueEvent) (is : h ≡ histories lock) where
  abbrev now : Histories
  now = with_history histories lock (h ++ events)

  here : now lock ≡ h ++ events
  here = history-here histories lock (h ++ events)

  goes-on : GoOn histories now
  goes-on j = dite (ℕ_discrete j lock)
      (λ same. subst (λ (x : ℕ). BeginsWith (now x) (histories x)) (sym same) (events, here ∙ ap (λ (x : List QueueEvent). x ++ events) is))
      (λ apart. subst (λ (x : List QueueEvent). BeginsWith x (histories j)) (sym (history-else histories lock (h ++ events) j apart)) (begins-refl (histories j)))

  all-sound : ((j : ℕ) → IsSound (histories j)) → IsSound (h ++ events) → (j : ℕ) → IsSound (now j)
  all-sound old sound j = dite (ℕ_discrete j lock)
      (λ same. subst (λ (x : ℕ). IsSound (now x)) (sym same) (subst IsSound (sym here) sound))
      (λ apart. subst IsSound (sym (history-else histories lock (h ++ events) j apart)) (old j))

  each-once : (made : List LoggedEvent) (j at : ℕ)
      → times_at j at (made ++ placed lock (length h) events) + once_below at (length (histories j)) ≡ times_at j at made + once_below at (length (now j))
  each-once made j at = dite (ℕ_discrete j lock)
      (λ same. subst (λ (x : ℕ). times_at x at (made ++ placed lock (length h) events) + once_below at (length (histories x)) ≡ times_at x at made + once_below at (length (now x))) (sym same)
      (let parts = times-append lock at made (placed lock (length h) events) in
      let more = times-placed lock at (length h) events in
      let old = ap (λ (x : List QueueEvent). once_below at (length x)) is in
      let new : once_below at (length h + length events) ≡ once_below at (length (now lock)) = ap (once_below at) (sym (ap (λ (x : List QueueEvent). length x) here ∙ length-append h events)) in
      omega (arith, parts, more, old, new)))
      (λ apart.
      let parts = times-append j at made (placed lock (length h) events) in
      let nothing = times-elsewhere j lock at (length h) events (λ e. apart (sym e)) in
      let same = ap (λ (x : List QueueEvent). once_below at (length x)) (history-else histories lock (h ++ events) j apart) in
      omega (arith, parts, nothing, same))

pub gives-allowed : (locks slots id lock : ℕ) (h : List QueueEvent) (l : EventLog) (g : Guarded) → lock < locks → slots ≡ locks → IsSound (h ++ g.events) → IsLeftBy (h ++ g.events) g.lock
    → Allows (IsKept locks) slots id (with_guard lock h l g) (word_of lock) (λ _. 0) (λ _ w. GivesBack (step slots (word_of lock) 0 0 none) (with_guard lock h l g) w)
gives-allowed locks slots id lock h l g inside one sound left s kept long at wide =
    let v : KnownLocks = taken_known (sight lock h) l in
    let f = kept.fits id v at in
    let is : h ≡ kept.histories lock = f.at_guard (sight lock h) refl in
    let later : Histories = now kept.histories lock h g.events is in
    let at_it : later lock ≡ h ++ g.events = here kept.histories lock h g.events is in
    let more : GoOn kept.histories later = goes-on kept.histories lock h g.events is in
    let else_same = λ (j : ℕ) (apart : j ≢ lock). history-else kept.histories lock (h ++ g.events) j apart in
    let log : EventLog = given_back_log l lock h g.events in
    let in_it : guard_of lock v ≤ guards lock s.views = at-le-total (guard_of lock) s.views id v at in
    let next = one-seat-stepped locks s kept lock inside id v (idle_known log) at (acts kept.seats id (Some (sight lock h)) None l log at refl) later more else_same (all-sound kept.histories lock h g.events is kept.sound sound)
    (λ i u apart there o e. dite (ℕ_discrete o.lock lock)
    (λ same. absurd (no-other locks s kept lock inside id v (idle_known log) at (sight lock h) refl inside i u apart there o e same))
    (λ ne. sym (else_same o.lock ne)))
    (record {
      seen = All-cons (IsSeenIn later) (sight lock (h ++ g.events)) l.seen (subst (λ (x : List QueueEvent). BeginsWith x (h ++ g.events)) (sym at_it) (begins-refl (h ++ g.events))) (seen-more kept.histories later more l.seen f.seen);
      made = All-append (StandsIn later) l.made (placed lock (length h) g.events) (made-more kept.histories later more l.made f.made) (stands-placed later lock h g.events (length h) at_it refl);
      at_guard = λ o e. absurd (none-some _ e);
    })
    (each-once kept.histories lock h g.events is l.made)
    0 (set s.homes lock (some g)) (omega (arith, in_it, kept.one_guard lock inside, if-one lock)) (λ j apart. if-none lock j (λ e. apart (sym e))) (omega arith)
    (λ _. (g, set_here s.homes lock (some g) (omega (arith, long, one, inside)), subst (λ (x : List QueueEvent). IsLeftBy x g.lock) (sym at_it) left))
    (λ j apart. set_else s.homes lock j (some g) apart) in (
      idle_known log,
      gives,
      tt,
      next,
      λ lock' h' g' e.
          let out : sight lock h ≡ sight lock' h' = same_Some _ _ (ap (λ (m : Mine). m.0.out) e) in
          let slot : g ≡ g' = ap (λ (m : Mine). (get_or m.1 0 (0, g)).1) e in (
            λ i. idle (given_back_log l (out i).lock (out i).history (slot i).events),
            subst (λ (z : Sight × Guarded). IsLawfulSeat slots (given_back_log l z.0.lock z.0.history z.1.events)) (λ i. (out i, slot i))
                (lawful-seat locks slots one (stepped s (word_of lock) 0 id ((lock, g) ∷ []) (idle_known log) gives) next id log (stepped-there s.views id v (idle_known log) at)),
          ),
    )

-- ---- a split and a join

pub splits-allowed : (locks id : ℕ) (l : EventLog) → Splits (IsKept locks) id (idle_known l) (split_view (idle_known l)) (second_view (idle_known l))
splits-allowed locks id l s kept at =
    let v : KnownLocks = idle_known l in
    let left : KnownLocks = split_view v in
    let right : KnownLocks = second_view v in
    let f = kept.fits id v at in
    let views = set s.views id left in record {
      seats = splits kept.seats id l at;
      histories = kept.histories;
      counted = kept.counted;
      sound = kept.sound;
      fits = λ i t there.
          ⊎_elim
          (λ (x : get_elem? views i ≡ some t).
          ⊎_elim (λ (y : (i ≡ id) × (left ≡ t)). subst (Fits kept.histories) y.1 (record { seen = f.seen; made = f.made; at_guard = λ o e. absurd (none-some _ e) }))
          (λ (y : (i ≢ id) × (get_elem? s.views i ≡ some t)). kept.fits i t y.1)
          (at_set s.views id i left t x))
          (λ (x : right ≡ t). subst (Fits kept.histories) x (record { seen = f.seen; made = All-nil (StandsIn kept.histories); at_guard = λ o e. absurd (none-some _ e) }))
          (at_snoc views right t i there);
      once = λ lock k.
          let one = total-set (made_of lock k) s.views id v left at in
          let two = total-snoc (made_of lock k) views right in
          omega (arith, one, two, kept.once lock k);
      guard = λ lock below. let one = total-set (guard_of lock) s.views id v left at in let two = total-snoc (guard_of lock) views right in omega (arith, kept.guard lock below, one, two);
      one_guard = λ lock below. let one = total-set (guard_of lock) s.views id v left at in let two = total-snoc (guard_of lock) views right in omega (arith, kept.one_guard lock below, one, two);
      home = kept.home;
    }

pub joins-allowed : (locks id : ℕ) (l : EventLog) (other : ℕ) (o : EventLog) → Joins (IsKept locks) id (idle_known l) other (idle_known o) (joined_view (idle_known l) (idle_known o)) spent
joins-allowed locks id l other o s kept at apart from =
    let v : KnownLocks = idle_known l in
    let u : KnownLocks = idle_known o in
    let both : KnownLocks = joined_view v u in
    let views = set s.views id both in
    let there : get_elem? s.views other ≡ some u = sym (set_else s.views id other both apart) ∙ from in
    let f = kept.fits id v at in
    let f' = kept.fits other u there in record {
      seats = joins kept.seats id other l o at apart there;
      histories = kept.histories;
      counted = kept.counted;
      sound = kept.sound;
      fits = λ i t at_i.
          ⊎_elim
          (λ (x : (i ≡ other) × (spent ≡ t)). subst (Fits kept.histories) x.1 (record { seen = All-nil (IsSeenIn kept.histories); made = All-nil (StandsIn kept.histories); at_guard = λ p e. absurd (none-some _ e) }))
          (λ (x : (i ≢ other) × (get_elem? views i ≡ some t)).
          ⊎_elim (λ (y : (i ≡ id) × (both ≡ t)). subst (Fits kept.histories) y.1 (record {
            seen = All-append (IsSeenIn kept.histories) l.seen o.seen f.seen f'.seen;
            made = All-append (StandsIn kept.histories) l.made o.made f.made f'.made;
            at_guard = λ p e. absurd (none-some _ e);
          }))
          (λ (y : (i ≢ id) × (get_elem? s.views i ≡ some t)). kept.fits i t y.1)
          (at_set s.views id i both t x.1))
          (at_set views other i spent t at_i);
      once = λ lock k.
          let one = total-set (made_of lock k) s.views id v both at in
          let two = total-set (made_of lock k) views other u spent from in
          let parts = times-append lock k l.made o.made in
          omega (arith, one, two, parts, kept.once lock k);
      guard = λ lock below. let one = total-set (guard_of lock) s.views id v both at in let two = total-set (guard_of lock) views other u spent from in omega (arith, kept.guard lock below, one, two);
      one_guard = λ lock below. let one = total-set (guard_of lock) s.views id v both at in let two = total-set (guard_of lock) views other u spent from in omega (arith, kept.one_guard lock below, one, two);
      home = kept.home;
    }
