-- Each kind of step keeps the rule, and what it says of its seat is true.
use Rattle.std.proofs.Common.{◌≡◌, ◌≢◌, ℕ, ◌+◌, ◌≤◌, ⊎_elim, Bool, true, List, [], ◌∷◌, length, get_or, set, refl, sym, ap, ◌∙◌, subst, arith, length-set, get_or-set_same, Option, None, Some, All, IfSome, if◌then◌else◌, eqb}
use Rattle.std.proofs.lemmas.{Bool.{false≢true, Decides.nat_tests}, List.Elements.{All-nil, All-cons, All-append}}
use Rattle.std.proofs.lemmas.Option.{get_or_from_slice_get, slice_get_within}
use mathlib.Core.Option.{some, none, some-injective, some-ne-none}
use mathlib.Core.Option as maybe
use lib.ListN.{get_elem?}
use prog.Atomic.{either}
use Rattle.atomic_table.specs.Table.{keeps, takes, gives, opening, Act, Valid, stepped, carried_after, Allows, Splits, Joins, Final, Seen}
use Rattle.atomic_table.proofs.Lists.{at_set, at_snoc, set_here, set_else, exchanged}
use Rattle.arachne_sleep.proofs.Growing.{begins-refl, begins-more, stands-more, granted-more, stands-since, times-since, times-append}
use Rattle.arachne_sleep.{proofs.Traces.{tells-more, tells-cut, tells-join}, specs.{Calls.IsToldBy, History.IsSound}}
use Rattle.arachne_sleep.specs.{Histories.{BeginsWith, since, StandsIn, times_at, once_below, IsGrantedIn}, Lock.Lock}
use Rattle.arachne_sleep.specs.Logs.{blank_log, step_record, contended_log, taken_log, passes_of, given_back_log, cut_log, joined_log}
use Rattle.arachne_sleep.specs.Rule.{Board, idle_known, taken_known, blank, Fits, guards, IsHome, IsLawful, IsKept, first_view, first_seat, second_seat, joined_seat, spent_seat}
use Rattle.arachne_sleep.specs.{Steps.{Mine, idle, with_guard, Takes, GivesBack}, Trace.{entry, Tells}, Views.Guarded}
use Rattle.arachne_sleep.specs.{Words.{guard_word, first_words}, declared.{answer.Pass.Pass, event.LockEvent.LockEvent}}
use Rattle.arachne_sleep.specs.declared.view.{Known.Known, PlacedEvent.PlacedEvent, SeatLog.SeatLog}
use Rattle.arachne_weights.specs.{declared.token.Token.Token, Tokens.{held, begins, learns, splits, joins}}
use Rattle.arachne_weights.{specs.Weight.whole, proofs.Totals.{total-set, total-snoc, at-le-total, two-le-total}}
use Rattle.arachne_weights.proofs.Tokens.{whole-total}
use Rattle.arachne_sleep.specs.declared.view.Kind.TheVariants as kind

-- the number of times that a seat has the guard, and the number of events that it made at a place
abbrev guard_of : Token Known → ℕ
guard_of t = if t.known.taken then 1 else 0

abbrev made_of : ℕ → Token Known → ℕ
made_of k t = times_at k t.known.log.made

has-guard : (t : Token Known) → t.known.taken ≡ true → guard_of t ≡ 1
has-guard t e = ap (λ (b : Bool). if b then 1 else 0) e

-- a seat without the guard agrees with each history that extends its own; so does each seat if the history stays
fits-more : (number : ℕ) (h g : List LockEvent) (t : Token Known) → BeginsWith g h → (t.known.taken ≡ true → h ≡ g) → Fits number h t → Fits number g t
fits-more number h g t more still f = record {
  numbered = f.numbered;
  seen = begins-more h g more t.known.log.seen f.seen;
  made = stands-more h g more t.known.log.made f.made;
  passes = granted-more number h g more t.known.log.passes f.passes;
  at_guard = λ e. f.at_guard e ∙ ap (λ (x : List LockEvent). x ∷ []) (still e);
}

-- One seat made a step: its view has changed, and the history may have been extended.
module _ (number : ℕ) (s : Board) (h g : List LockEvent) (kept : IsLawful number s h) (id weight : ℕ) (k k' : Known) (mine : get_elem? s.views id ≡ some (held weight k)) where
  abbrev after_views : List (Token Known)
  after_views = set s.views id (held weight k')

  abbrev after_step : ℕ → List (maybe.Option Guarded) → Board
  after_step n homes = record { words = set s.words guard_word n; homes = homes; views = after_views }

  guards-after : guards after_views + guard_of (held weight k) ≡ guards s.views + guard_of (held weight k')
  guards-after = total-set guard_of s.views id (held weight k) (held weight k') mine

  -- if this seat has the guard, no other has
  no-other : k.taken ≡ true → (i : ℕ) (t : Token Known) → i ≢ id → get_elem? s.views i ≡ some t → t.known.taken ≡ true → ⊥
  no-other e i t apart there e' =
      let two = two-le-total guard_of s.views id i (held weight k) t mine apart there in
      let one = has-guard (held weight k) e in
      let other = has-guard t e' in
      omega (arith, two, one, other, kept.one_guard)

  one-seat-stepped : BeginsWith g h → IsSound g → ((i : ℕ) (t : Token Known) → i ≢ id → get_elem? s.views i ≡ some t → t.known.taken ≡ true → h ≡ g)
      → Fits number g (held weight k')
      → ((j : ℕ) → times_at j k'.log.made + once_below j (length h) ≡ times_at j k.log.made + once_below j (length g))
      → (n : ℕ) (homes : List (maybe.Option Guarded)) → n + guard_of (held weight k) ≡ guards s.views + guard_of (held weight k') → n ≤ 1
      → (n ≡ 0 → IsHome number g homes)
      → IsLawful number (after_step n homes) g
  one-seat-stepped more sound still fit once n homes balance few home = record {
    sound = sound;
    shared = learns kept.shared id weight k k' mine;
    counted = length-set s.words guard_word n ∙ kept.counted;
    fits = λ i t there.
        ⊎_elim (λ (x : (i ≡ id) × (held weight k' ≡ t)). subst (Fits number g) x.1 fit)
        (λ (x : (i ≢ id) × (get_elem? s.views i ≡ some t)). fits-more number h g t more (still i t x.0 x.1) (kept.fits i t x.1))
        (at_set s.views id i (held weight k') t there);
    once = λ j.
        let total = total-set (made_of j) s.views id (held weight k) (held weight k') mine in
        omega (arith, total, once j, kept.once j);
    guard = get_or-set_same s.words guard_word n 0 (omega (arith, kept.counted)) ∙ omega (arith, guards-after, balance);
    one_guard = omega (arith, guards-after, balance, few);
    home = λ e. home (sym (get_or-set_same s.words guard_word n 0 (omega (arith, kept.counted))) ∙ e);
  }

-- ---- the start

none-below : (k : ℕ) → once_below k 0 ≡ 0
none-below k = grind (arith, nat_tests)

first_tells : (number : ℕ) → Tells [] first_words (first_view number ∷ [])
first_tells number = record {
  lawful = tt;
  word = refl;
  seats = tt;
  records = λ h t there live.
      ⊎_elim (λ (x : get_elem? [] h ≡ some t). absurd (some-ne-none t (sym x)))
      (λ (x : first_view number ≡ t). ap (λ (z : Token Known). z.known.log.records) (sym x))
      (at_snoc [] (first_view number) t h there);
}

pub opens : (number : ℕ) (guarded : Guarded) → guarded.state ≡ record { number = number; history = [] } → IsKept number (opening first_words (guarded ∷ []) (first_view number))
opens number guarded is = record {
  history = [];
  trace = [];
  tells = first_tells number;
  lawful = record {
    sound = record { lawful = tt; never_idle = λ _. refl };
    shared = begins (idle_known (blank_log number));
    counted = refl;
    fits = λ i t there.
        ⊎_elim (λ (x : get_elem? [] i ≡ some t). absurd (some-ne-none t (sym x)))
        (λ (x : first_view number ≡ t). subst (Fits number []) x (record {
          numbered = λ _. refl;
          seen = All-nil (BeginsWith []);
          made = All-nil (StandsIn []);
          passes = All-nil (IsGrantedIn number []);
          at_guard = λ e. absurd (false≢true e);
        }))
        (at_snoc [] (first_view number) t i there);
    once = λ k. total-snoc (made_of k) [] (first_view number) ∙ sym (none-below k);
    guard = sym (total-snoc guard_of [] (first_view number));
    one_guard = let none_yet = total-snoc guard_of [] (first_view number) in omega (arith, none_yet);
    home = λ _. (guarded, refl, is);
  };
}

-- ---- the guard is tried

pub takes-allowed : (number slots id weight : ℕ) (l : SeatLog) → Allows (IsKept number) slots id (idle weight l) guard_word (λ n. either (eqb n 0) 1 n) (Takes (idle weight l))
takes-allowed number slots id weight l s all long at wide =
    let h = all.history in
    let kept = all.lawful in
    let tells = all.tells in
    let n = get_or s.words guard_word 0 in
    let f = kept.fits id (held weight (idle_known l)) at in
    exchanged n 0 1
    (λ (m : ℕ). (w : Token Known) × (a : Act Guarded) × Valid s.homes [] a × IsKept number (stepped s guard_word m id [] w a) × Takes (idle weight l) n (w, carried_after [] a))
    (λ home.
    let it = kept.home home in
    let guarded : Guarded = it.0 in
    let past : guarded.state.history ≡ h = ap (λ (x : Lock). x.history) it.2 in
    let log = taken_log l guarded.state.history in (
      held weight (taken_known log),
      takes 0 guarded,
      it.1,
      (record {
        history = h;
        trace = entry id (step_record kind.Take 0 1) ∷ all.trace;
        tells = tells-more all.trace s.words s.views tells id weight (idle_known l) at (step_record kind.Take 0 1) (taken_known log) kept.counted refl (record { place = refl; found = sym home ∙ tells.word; makes = refl });
        lawful = one-seat-stepped number s h h kept id weight (idle_known l) (taken_known log) at (begins-refl h) kept.sound (λ i t _ _ _. refl)
            (record {
              numbered = λ _. f.numbered refl;
              seen = All-cons (BeginsWith h) guarded.state.history [] (subst (BeginsWith h) (sym past) (begins-refl h)) (All-nil (BeginsWith h));
              made = f.made;
              passes = f.passes;
              at_guard = λ _. ap (λ (x : List LockEvent). x ∷ []) past;
            })
            (λ j. refl) 1 (set s.homes 0 none) (omega (arith, kept.guard, home)) (omega arith) (λ e. absurd (omega (arith, e)));
      }),
      (
        (λ _. (
          guarded,
          refl,
          record {
            numbered = ap (λ (x : Lock). x.number) it.2 ∙ sym (f.numbered refl);
            sound = subst IsSound (sym past) kept.sound;
            begins = subst (λ (x : List LockEvent). All (BeginsWith x) l.seen) (sym past) f.seen;
          },
        )),
        (λ ne. absurd (ne home)),
      ),
    ))
    (λ away. let seen : n ≡ 1 = omega (arith, away, kept.guard, kept.one_guard) in (
      held weight (idle_known (contended_log l)),
      keeps,
      tt,
      (record {
        history = h;
        trace = entry id (step_record kind.Take 1 1) ∷ all.trace;
        tells = subst (λ (m : ℕ). Tells (entry id (step_record kind.Take 1 1) ∷ all.trace) (set s.words guard_word m) (set s.views id (held weight (idle_known (contended_log l))))) (sym seen)
            (tells-more all.trace s.words s.views tells id weight (idle_known l) at (step_record kind.Take 1 1) (idle_known (contended_log l)) kept.counted refl (record { place = refl; found = sym seen ∙ tells.word; makes = refl }));
        lawful = one-seat-stepped number s h h kept id weight (idle_known l) (idle_known (contended_log l)) at (begins-refl h) kept.sound (λ i t _ _ _. refl)
            (record { numbered = λ _. f.numbered refl; seen = f.seen; made = f.made; passes = f.passes; at_guard = λ e. absurd (false≢true e) })
            (λ j. refl) n s.homes (omega (arith, kept.guard)) (omega (arith, kept.guard, kept.one_guard)) (λ e. absurd (away e));
      }),
      ((λ e. absurd (away e)), (λ _. refl)),
    ))

-- ---- the guard is given back

granted-passes : (number : ℕ) (h : List LockEvent) (pass : Option Pass) → IfSome pass (IsGrantedIn number h) → All (IsGrantedIn number h) (passes_of pass)
granted-passes number h None p = All-nil (IsGrantedIn number h)
granted-passes number h (Some pass) p = All-cons (IsGrantedIn number h) pass [] p (All-nil (IsGrantedIn number h))

pub gives-allowed : (number slots id weight : ℕ) (l : SeatLog) (guarded : Guarded) (before : List LockEvent) → slots ≡ 1 → l.seen ≡ before ∷ [] → guarded.state.number ≡ l.number
    → BeginsWith guarded.state.history before → IsSound guarded.state.history → IfSome guarded.last_pass (IsGrantedIn l.number guarded.state.history)
    → Allows (IsKept number) slots id (with_guard weight l guarded) guard_word (λ _. 0) (λ _ w. GivesBack (with_guard weight l guarded) w)
gives-allowed number slots id weight l guarded before one saw numbered more sound pass s everything long at wide =
    let h = everything.history in
    let kept = everything.lawful in
    let tells = everything.tells in
    let g : List LockEvent = guarded.state.history in
    let v : Token Known = held weight (taken_known l) in
    let f = kept.fits id v at in
    let all : l.seen ≡ h ∷ [] = f.at_guard refl in
    let same : before ≡ h = ap (λ (x : List (List LockEvent)). get_or x 0 []) (sym saw ∙ all) in
    let longer : BeginsWith g h = subst (BeginsWith g) same more in
    let last : get_or l.seen 0 [] ≡ h = ap (λ (x : List (List LockEvent)). get_or x 0 []) all in
    let here : l.number ≡ number = f.numbered refl in
    let log : SeatLog = given_back_log l g guarded.last_pass in
    let in_it : 1 ≤ guards s.views = at-le-total guard_of s.views id v at in
    let added : since (get_or l.seen 0 []) g ≡ since h g = ap (λ (x : List LockEvent). since x g) last in (
      held weight (idle_known log),
      gives,
      tt,
      (record {
        history = g;
        trace = entry id (step_record kind.GiveBack 1 0) ∷ everything.trace;
        tells = tells-more everything.trace s.words s.views tells id weight (taken_known l) at (step_record kind.GiveBack 1 0) (idle_known log) kept.counted refl (record { place = refl; found = (omega (arith, in_it, kept.guard, kept.one_guard)) ∙ tells.word; makes = (refl, refl) });
        lawful = one-seat-stepped number s h g kept id weight (taken_known l) (idle_known log) at longer sound
            (λ i t apart there e. absurd (no-other number s h h kept id weight (taken_known l) (taken_known l) at refl i t apart there e))
            (record {
              numbered = λ _. here;
              seen = All-cons (BeginsWith g) g [] (begins-refl g) (All-nil (BeginsWith g));
              made = All-append (StandsIn g) l.made (since (get_or l.seen 0 []) g) (stands-more h g longer l.made f.made)
                  (subst (λ (x : List PlacedEvent). All (StandsIn g) x) (sym added) (stands-since h g longer));
              passes = All-append (IsGrantedIn number g) l.passes (passes_of guarded.last_pass) (granted-more number h g longer l.passes f.passes)
                  (granted-passes number g guarded.last_pass (subst (λ (k : ℕ). IfSome guarded.last_pass (IsGrantedIn k g)) here pass));
              at_guard = λ e. absurd (false≢true e);
            })
            (λ j.
            let parts = times-append j l.made (since (get_or l.seen 0 []) g) in
            let moved = ap (times_at j) added in
            omega (arith, parts, moved, times-since j h g longer))
            0 (set s.homes 0 (some guarded)) (omega (arith, in_it, kept.one_guard)) (omega arith)
            (λ _. (guarded, set_here s.homes 0 (some guarded) (omega (arith, long, one)), (λ i. record { number = (numbered ∙ here) i; history = g })));
      }),
      (λ other e. let there : guarded ≡ other = ap (λ (x : List (ℕ × Guarded)). (get_or x 0 (0, guarded)).1) e in ap (λ (d : Guarded). idle weight (given_back_log l d.state.history d.last_pass)) there),
    )

-- ---- a split and a join

pub splits-allowed : (number id weight : ℕ) (l : SeatLog) → Splits (IsKept number) id (held weight (idle_known l)) (first_seat (held weight (idle_known l))) (second_seat (held weight (idle_known l)))
splits-allowed number id weight l s all at =
    let h = all.history in
    let kept = all.lawful in
    let v : Token Known = held weight (idle_known l) in
    let left : Token Known = first_seat v in
    let right : Token Known = second_seat v in
    let f = kept.fits id v at in
    let views = set s.views id left in
    let g1 = total-set guard_of s.views id v left at in
    let g2 = total-snoc guard_of views right in record {
      history = h;
      trace = all.trace;
      tells = tells-cut all.trace s.words s.views all.tells id weight (idle_known l) at left right refl refl;
      lawful = record {
        sound = kept.sound;
        shared = splits kept.shared id weight (idle_known l) (idle_known l) (idle_known (cut_log l)) at;
        counted = kept.counted;
        fits = λ i t there.
            ⊎_elim
            (λ (x : get_elem? views i ≡ some t).
            ⊎_elim (λ (y : (i ≡ id) × (left ≡ t)). subst (Fits number h) y.1 (record { numbered = λ _. f.numbered refl; seen = f.seen; made = f.made; passes = f.passes; at_guard = f.at_guard }))
            (λ (y : (i ≢ id) × (get_elem? s.views i ≡ some t)). kept.fits i t y.1)
            (at_set s.views id i left t x))
            (λ (x : right ≡ t). subst (Fits number h) x (record {
              numbered = λ _. f.numbered refl;
              seen = f.seen;
              made = All-nil (StandsIn h);
              passes = All-nil (IsGrantedIn number h);
              at_guard = λ e. absurd (false≢true e);
            }))
            (at_snoc views right t i there);
        once = λ k.
            let m1 = total-set (made_of k) s.views id v left at in
            let m2 = total-snoc (made_of k) views right in
            omega (arith, m1, m2, kept.once k);
        guard = omega (arith, kept.guard, g1, g2);
        one_guard = omega (arith, kept.one_guard, g1, g2);
        home = kept.home;
      };
    }

pub joins-allowed : (number id weight : ℕ) (l : SeatLog) (other added : ℕ) (o : SeatLog)
    → Joins (IsKept number) id (held weight (idle_known l)) other (held added (idle_known o)) (joined_seat (held weight (idle_known l)) (held added (idle_known o))) spent_seat
joins-allowed number id weight l other added o s all at apart from =
    let h = all.history in
    let kept = all.lawful in
    let v : Token Known = held weight (idle_known l) in
    let u : Token Known = held added (idle_known o) in
    let both : Token Known = joined_seat v u in
    let views = set s.views id both in
    let there : get_elem? s.views other ≡ some u = sym (set_else s.views id other both apart) ∙ from in
    let f = kept.fits id v at in
    let f' = kept.fits other u there in
    let g1 = total-set guard_of s.views id v both at in
    let g2 = total-set guard_of views other u spent_seat from in record {
      history = h;
      trace = all.trace;
      tells = tells-join all.trace s.words s.views all.tells id weight (idle_known l) at other both spent_seat refl refl;
      lawful = record {
        sound = kept.sound;
        shared = joins kept.shared id other weight added (idle_known l) (idle_known o) (idle_known (joined_log l o)) at apart there;
        counted = kept.counted;
        fits = λ i t at_i.
            ⊎_elim
            (λ (x : (i ≡ other) × (spent_seat ≡ t)). subst (Fits number h) x.1 (record {
              numbered = λ e. absurd (false≢true e);
              seen = All-nil (BeginsWith h);
              made = All-nil (StandsIn h);
              passes = All-nil (IsGrantedIn number h);
              at_guard = λ e. absurd (false≢true e);
            }))
            (λ (x : (i ≢ other) × (get_elem? views i ≡ some t)).
            ⊎_elim (λ (y : (i ≡ id) × (both ≡ t)). subst (Fits number h) y.1 (record {
              numbered = λ _. f.numbered refl;
              seen = All-append (BeginsWith h) l.seen o.seen f.seen f'.seen;
              made = All-append (StandsIn h) l.made o.made f.made f'.made;
              passes = All-append (IsGrantedIn number h) l.passes o.passes f.passes f'.passes;
              at_guard = λ e. absurd (false≢true e);
            }))
            (λ (y : (i ≢ id) × (get_elem? s.views i ≡ some t)). kept.fits i t y.1)
            (at_set s.views id i both t x.1))
            (at_set views other i spent_seat t at_i);
        once = λ k.
            let m1 = total-set (made_of k) s.views id v both at in
            let m2 = total-set (made_of k) views other u spent_seat from in
            let parts = times-append k l.made o.made in
            omega (arith, m1, m2, parts, kept.once k);
        guard = omega (arith, kept.guard, g1, g2);
        one_guard = omega (arith, kept.one_guard, g1, g2);
        home = kept.home;
      };
    }

-- ---- the end

-- the conclusions of the whole seat about the state that is in the slot at the end
settles : (number id : ℕ) (l : SeatLog) (words : List ℕ) (slots : List Guarded) → Final (Seen (IsKept number) id (held whole (idle_known l))) words slots
    → (guarded : Guarded) → get_elem? slots 0 ≡ some guarded → IsToldBy l guarded.state.history
settles number id l words slots (s, (all, at), same, long, homes) guarded there =
    let h = all.history in
    let kept = all.lawful in
    let v : Token Known = held whole (idle_known l) in
    let alone = whole-total blank guard_of refl kept.shared id v at refl in
    let it = kept.home (omega (arith, kept.guard, alone)) in
    let found : it.0 ≡ guarded = some-injective it.0 guarded (sym (homes 0 it.0 it.1) ∙ there) in
    let past : h ≡ guarded.state.history = sym (ap (λ (x : Lock). x.history) it.2) ∙ ap (λ (d : Guarded). d.state.history) found in
    let f = kept.fits id v at in
    subst (IsToldBy l) past (record {
      begins = f.seen;
      made = record {
        stands = λ i m is. subst (StandsIn h) (get_or_from_slice_get l.made i m m is) (f.made i m (slice_get_within l.made i m is));
        once = λ k. sym (whole-total blank (made_of k) refl kept.shared id v at refl) ∙ kept.once k;
      };
      passes = subst (λ (n : ℕ). All (IsGrantedIn n h) l.passes) (sym (f.numbered refl)) f.passes;
    })

-- the same, for the lock and its whole seat
pub settled : (key id weight : ℕ) (me : Mine) (l : SeatLog) (words : List ℕ) (slots : List Guarded) → Final (Seen (IsKept key) id me.0) words slots
    → me ≡ idle weight me.0.known.log → weight ≡ whole → me.0.known.log ≡ l
    → (guarded : Guarded) → get_elem? slots 0 ≡ some guarded → (history : List LockEvent) → history ≡ guarded.state.history → IsToldBy l history
settled key id weight me l words slots final mine all log guarded there history is =
    subst (λ (x : SeatLog × List LockEvent). IsToldBy x.0 x.1) (λ i. (log i, sym is i))
    (settles key id me.0.known.log words slots
    (subst (λ (t : Token Known). Final (Seen (IsKept key) id t) words slots) (ap (λ (m : Mine). m.0) mine ∙ ap (λ (w : ℕ). held w (idle_known me.0.known.log)) all) final)
    guarded there)
