-- Lines whose holds are in one list.
use Rattle.std.proofs.Common.{ℕ, ◌+◌, ◌≡◌, ◌≤◌, ◌<◌, List, [], ◌∷◌, ◌++◌, length, get_or, take, drop, refl, ap, sym, ◌∙◌, subst, arith, append_assoc, length-append, ◌*◌, zero, suc}
use Rattle.std.proofs.lemmas.List.{drop-append-le, drop-set-add, drop-set-lt, drop_at, get_or-drop, get_or-take, length-drop, length-take-le, take-append-le, take-set-le, take_all, take_at, drop-drop}
use Rattle.std.proofs.Math.{ListN.set, Nat.suc-mul, Seq.take-set-lt}
use Rattle.arachne_program.specs.Value.{wrapped}
use Rattle.arachne_machine.specs.declared.{line.ThreadLine.ThreadLine, line_list.Mark.Mark}
use Rattle.arachne_machine.specs.Lines.{AreHoldsOf, CountsHoldAt, line_with, with_holds}
use Rattle.arachne_machine.proofs.Tabulated.{length-tabulated, tabulated-added, tabulated-beyond}

pub length-with_holds : (quarter locks : ℕ) (marks : List Mark) (holds : List ℕ) → length (with_holds quarter locks marks holds) ≡ length marks
length-with_holds quarter locks [] holds = refl
length-with_holds quarter locks (mark ∷ marks) holds = omega (arith, length-with_holds quarter locks marks (drop locks holds))

-- the first thread has its numbers, and the others have theirs
first-fits : (locks : ℕ) (mark : Mark) (marks : List Mark) (holds : List ℕ) → AreHoldsOf locks (mark ∷ marks) holds → locks ≤ length holds
first-fits locks mark marks holds fit = omega (arith, fit, suc-mul (length marks) locks)

others-fit : (locks : ℕ) (mark : Mark) (marks : List Mark) (holds : List ℕ) → AreHoldsOf locks (mark ∷ marks) holds → AreHoldsOf locks marks (drop locks holds)
others-fit locks mark marks holds fit = omega (arith, fit, suc-mul (length marks) locks, length-drop locks holds)

-- lines behind others
pub with_holds-append : (quarter locks : ℕ) (marks others : List Mark) (holds more : List ℕ) → AreHoldsOf locks marks holds →
    with_holds quarter locks (marks ++ others) (holds ++ more) ≡ with_holds quarter locks marks holds ++ with_holds quarter locks others more
with_holds-append quarter locks [] others [] more fit = refl
with_holds-append quarter locks [] others (n ∷ holds) more fit = absurd (omega (arith, fit))
with_holds-append quarter locks (mark ∷ marks) others holds more fit =
    let fits = first-fits locks mark marks holds fit in
    ap (λ (l : List ℕ). line_with quarter mark l ∷ with_holds quarter locks (marks ++ others) (drop locks (holds ++ more))) (take-append-le locks holds more fits)
    ∙ ap (λ (l : List ℕ). line_with quarter mark (take locks holds) ∷ with_holds quarter locks (marks ++ others) l) (drop-append-le locks holds more fits)
    ∙ ap (λ (l : List ThreadLine). line_with quarter mark (take locks holds) ∷ l) (with_holds-append quarter locks marks others (drop locks holds) more (others-fit locks mark marks holds fit))

pub holds-append : (locks : ℕ) (marks others : List Mark) (holds more : List ℕ) → AreHoldsOf locks marks holds → AreHoldsOf locks others more →
    AreHoldsOf locks (marks ++ others) (holds ++ more)
holds-append locks [] others [] more fit fits = fits
holds-append locks [] others (n ∷ holds) more fit fits = absurd (omega (arith, fit))
holds-append locks (mark ∷ marks) others holds more fit fits =
    let rest = holds-append locks marks others (drop locks holds) more (others-fit locks mark marks holds fit) fits in
    omega (
      arith,
      rest,
      first-fits locks mark marks holds fit,
      length-append (drop locks holds) more,
      length-append holds more,
      length-drop locks holds,
      suc-mul (length (marks ++ others)) locks,
    )

-- the line at a place
pub with_holds-at : (quarter locks : ℕ) (marks : List Mark) (holds : List ℕ) (place : ℕ) (mark : Mark) (other : ThreadLine) → place < length marks → mark ≡ get_or marks place mark →
    get_or (with_holds quarter locks marks holds) place other ≡ line_with quarter mark (take locks (drop (place * locks) holds))
with_holds-at quarter locks [] holds place mark other within is = absurd (omega (arith, within))
with_holds-at quarter locks (first ∷ marks) holds zero mark other within is =
    let none : zero ≡ zero * locks = omega arith in
    ap (λ (m : Mark). line_with quarter m (take locks holds)) (sym is) ∙ ap (λ (n : ℕ). line_with quarter mark (take locks (drop n holds))) none
with_holds-at quarter locks (first ∷ marks) holds (suc place) mark other within is =
    let more : locks + place * locks ≡ suc place * locks = omega (arith, suc-mul place locks) in
    with_holds-at quarter locks marks (drop locks holds) place mark other (omega (arith, within)) is
    ∙ ap (λ (l : List ℕ). line_with quarter mark (take locks l)) (drop-drop (place * locks) locks holds)
    ∙ ap (λ (n : ℕ). line_with quarter mark (take locks (drop n holds))) more

-- the numbers of the line at a place are within the list
pub within-holds : (locks : ℕ) (marks : List Mark) (holds : List ℕ) (place : ℕ) → AreHoldsOf locks marks holds → place < length marks → place * locks + locks ≤ length holds
within-holds locks [] holds place fit within = absurd (omega (arith, within))
within-holds locks (mark ∷ marks) holds zero fit within = omega (arith, first-fits locks mark marks holds fit)
within-holds locks (mark ∷ marks) holds (suc place) fit within =
    let rest = within-holds locks marks (drop locks holds) place (others-fit locks mark marks holds fit) (omega (arith, within)) in
    omega (arith, rest, suc-mul place locks, length-drop locks holds, first-fits locks mark marks holds fit)

-- a hold is counted behind a line
counts-behind : (first : ThreadLine) (old new : List ThreadLine) (place lock : ℕ) → CountsHoldAt old new place lock → CountsHoldAt (first ∷ old) (first ∷ new) (suc place) lock
counts-behind first old new place lock counts = record {
  line = counts.line;
  lines = ap (λ (l : List ThreadLine). first ∷ l) counts.lines;
  counted = counts.counted;
}

-- the number of a lock is raised
pub counts-at : (quarter locks : ℕ) (marks : List Mark) (holds : List ℕ) (place lock : ℕ) → place < length marks → AreHoldsOf locks marks holds → lock < locks →
    CountsHoldAt (with_holds quarter locks marks holds) (with_holds quarter locks marks (set holds (place * locks + lock) (wrapped (get_or holds (place * locks + lock) 0 + 1)))) place lock
counts-at quarter locks [] holds place lock within fit known = absurd (omega (arith, within))
counts-at quarter locks (mark ∷ marks) holds zero lock within fit known =
    let fits = first-fits locks mark marks holds fit in
    let at : zero * locks + lock ≡ lock = omega arith in
    let raised : ℕ = wrapped (get_or holds lock 0 + 1) in
    let own : List ℕ = take locks holds in
    let becomes : List ℕ = set own lock raised in
    let long : lock < length own = omega (arith, known, length-take-le locks holds fits) in
    record {
      line = line_with quarter mark becomes;
      lines = ap (λ (n : ℕ). with_holds quarter locks (mark ∷ marks) (set holds n (wrapped (get_or holds n 0 + 1)))) at
          ∙ ap (λ (l : List ℕ). line_with quarter mark l ∷ with_holds quarter locks marks (drop locks (set holds lock raised))) (take-set-lt locks holds lock raised known)
          ∙ ap (λ (l : List ℕ). line_with quarter mark becomes ∷ with_holds quarter locks marks l) (drop-set-lt locks holds lock raised known);
      counted = λ other. record {
        name = refl;
        tag = refl;
        ran = refl;
        holds = λ n f is. ap (λ (x : ℕ). set own lock (wrapped (x + 1))) (sym (get_or-take locks holds lock 0 known)) ∙ tabulated-added n f lock 1 own is long;
      };
    }
counts-at quarter locks (mark ∷ marks) holds (suc place) lock within fit known =
    let rest : List ℕ = drop locks holds in
    let at : ℕ = place * locks + lock in
    let moved : suc place * locks + lock ≡ locks + at = omega (arith, suc-mul place locks) in
    let raised : ℕ = wrapped (get_or holds (locks + at) 0 + 1) in
    let behind : locks ≤ locks + at = omega arith in
    let same : with_holds quarter locks (mark ∷ marks) (set holds (suc place * locks + lock) (wrapped (get_or holds (suc place * locks + lock) 0 + 1)))
    ≡ line_with quarter mark (take locks holds) ∷ with_holds quarter locks marks (set rest at (wrapped (get_or rest at 0 + 1))) =
    ap (λ (n : ℕ). with_holds quarter locks (mark ∷ marks) (set holds n (wrapped (get_or holds n 0 + 1)))) moved
    ∙ ap (λ (l : List ℕ). line_with quarter mark l ∷ with_holds quarter locks marks (drop locks (set holds (locks + at) raised))) (take-set-le locks holds (locks + at) raised behind)
    ∙ ap (λ (l : List ℕ). line_with quarter mark (take locks holds) ∷ with_holds quarter locks marks l) (drop-set-add locks holds at raised)
    ∙ ap (λ (x : ℕ). line_with quarter mark (take locks holds) ∷ with_holds quarter locks marks (set rest at (wrapped (x + 1)))) (sym (get_or-drop locks holds at 0)) in
    subst (λ (new : List ThreadLine). CountsHoldAt (line_with quarter mark (take locks holds) ∷ with_holds quarter locks marks rest) new (suc place) lock) (sym same)
    (counts-behind (line_with quarter mark (take locks holds)) (with_holds quarter locks marks rest) (with_holds quarter locks marks (set rest at (wrapped (get_or rest at 0 + 1)))) place lock
    (counts-at quarter locks marks rest place lock (omega (arith, within)) (others-fit locks mark marks holds fit) known))

-- there is no such lock
pub counts-none : (quarter locks : ℕ) (marks : List Mark) (holds : List ℕ) (place lock : ℕ) → place < length marks → AreHoldsOf locks marks holds → locks ≤ lock →
    CountsHoldAt (with_holds quarter locks marks holds) (with_holds quarter locks marks holds) place lock
counts-none quarter locks [] holds place lock within fit none = absurd (omega (arith, within))
counts-none quarter locks (mark ∷ marks) holds zero lock within fit none =
    let own : List ℕ = take locks holds in
    record {
      line = line_with quarter mark own;
      lines = refl;
      counted = λ other. record {
        name = refl;
        tag = refl;
        ran = refl;
        holds = λ n f is.
            let long : n ≡ locks = sym (length-tabulated n f) ∙ sym (ap length is) ∙ length-take-le locks holds (first-fits locks mark marks holds fit) in
            is ∙ tabulated-beyond n f lock 1 (omega (arith, long, none));
      };
    }
counts-none quarter locks (mark ∷ marks) holds (suc place) lock within fit none =
    counts-behind (line_with quarter mark (take locks holds)) (with_holds quarter locks marks (drop locks holds)) (with_holds quarter locks marks (drop locks holds)) place lock
    (counts-none quarter locks marks (drop locks holds) place lock (omega (arith, within)) (others-fit locks mark marks holds fit) none)

-- a line with as many numbers as there are locks behind others, and more behind it
pub with_holds-more : (quarter locks : ℕ) (marks others : List Mark) (mark : Mark) (holds own more : List ℕ) → AreHoldsOf locks marks holds → length own ≡ locks →
    with_holds quarter locks ((marks ++ mark ∷ []) ++ others) ((holds ++ own) ++ more) ≡ with_holds quarter locks marks holds ++ line_with quarter mark own ∷ with_holds quarter locks others more
with_holds-more quarter locks marks others mark holds own more fit long =
    ap (λ (l : List Mark). with_holds quarter locks l ((holds ++ own) ++ more)) (append_assoc marks (mark ∷ []) others)
    ∙ ap (λ (l : List ℕ). with_holds quarter locks (marks ++ mark ∷ others) l) (append_assoc holds own more)
    ∙ with_holds-append quarter locks marks (mark ∷ others) holds (own ++ more) fit
    ∙ ap (λ (l : List ℕ). with_holds quarter locks marks holds ++ line_with quarter mark l ∷ with_holds quarter locks others (drop locks (own ++ more))) (take_at own more locks long)
    ∙ ap (λ (l : List ℕ). with_holds quarter locks marks holds ++ line_with quarter mark own ∷ with_holds quarter locks others l) (drop_at own more locks long)

pub holds-more : (locks : ℕ) (marks others : List Mark) (mark : Mark) (holds own more : List ℕ) → AreHoldsOf locks marks holds → length own ≡ locks → AreHoldsOf locks others more →
    AreHoldsOf locks ((marks ++ mark ∷ []) ++ others) ((holds ++ own) ++ more)
holds-more locks marks others mark holds own more fit long fits =
    holds-append locks (marks ++ mark ∷ []) others (holds ++ own) more (holds-append locks marks (mark ∷ []) holds own fit (omega (arith, long))) fits

-- a line behind others
pub with_holds-push : (quarter locks : ℕ) (marks : List Mark) (mark : Mark) (holds own : List ℕ) → AreHoldsOf locks marks holds → length own ≡ locks →
    with_holds quarter locks (marks ++ mark ∷ []) (holds ++ own) ≡ with_holds quarter locks marks holds ++ line_with quarter mark own ∷ []
with_holds-push quarter locks marks mark holds own fit long =
    with_holds-append quarter locks marks (mark ∷ []) holds own fit
    ∙ ap (λ (l : List ℕ). with_holds quarter locks marks holds ++ line_with quarter mark l ∷ []) (take_all locks own (omega (arith, long)))

pub holds-push : (locks : ℕ) (marks : List Mark) (mark : Mark) (holds own : List ℕ) → AreHoldsOf locks marks holds → length own ≡ locks →
    AreHoldsOf locks (marks ++ mark ∷ []) (holds ++ own)
holds-push locks marks mark holds own fit long = holds-append locks marks (mark ∷ []) holds own fit (omega (arith, long))
