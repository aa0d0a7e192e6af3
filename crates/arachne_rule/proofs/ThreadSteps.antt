-- The conditions of the table for the steps by which threads come and go: a post, a take, the name that is kept after
-- it, and the end of a thread. Each step's lemma shows the World after it, with the word that it writes; `mark-event`
-- makes the rule from that. A new kind of step is one more lemma, with its conditions on the context that is carried.
use Rattle.std.proofs.Common.{Some, None, ◌≡◌, ℕ, ◌*◌, ◌<◌, true, false, List, [], ◌∷◌, length, length-set, refl, sym, ap, ◌∙◌, subst, arith, inl, inr, set, get_or, Option, eqb}
use Rattle.std.proofs.lemmas.Bool.{cases_eq}
use mathlib.Core.Option.{some, none}
use mathlib.Core.Option as opt
use lib.ListN.{get_elem?}
use prog.Atomic.{either}
use Rattle.atomic_table.specs.Table.{Act, keeps, takes, gives, step, stepped, homes_after, Allows, Valid, carried_after, rest}
use Rattle.atomic_table.proofs.Lists.{exchanged}
use Rattle.arachne_core.specs.{declared.event.Event.Event, Marked.{Marked, mark_word, marked_of}}
use Rattle.arachne_core.specs.World.{World, IsContext, IsHeldBy, Allowed, with_at, taken, after}
use Rattle.arachne_core.proofs.Changes.{with_at-same, with_at-other}
use Rattle.arachne_core.specs.declared.event.Event.TheVariants as event
use Rattle.arachne_core.specs.declared.mark.Mark.TheVariants as mark
use Rattle.arachne_weights.specs.{declared.token.Token.Token, Tokens.held}
use Rattle.arachne_rule.proofs.{Boards.{IsIn, home-set}, Histories.{same_size, entry}, Naming.keep_name, Post.post}
use Rattle.arachne_rule.proofs.{OwnWords.{same-carried, placed-in, home-empty, not-mine, ready-nobody}, Retire.retire}
use Rattle.arachne_rule.proofs.{Seen.{named-shown, held-shown, taken-held, is-mark-of}, Spending.spend, Take.take}
use Rattle.arachne_rule.{proofs.Stepping.{sees, mark-made, name-made, for-seat}, specs.History.{IsMarkOf, Makes}}
use Rattle.arachne_rule.specs.Changes.{taken_context, claimed_again, posted, retired, spent_known, marked_as, marked_free, marked_spent, taken_phase}
use Rattle.arachne_rule.specs.{Layout.{contexts_in, name_index, board_of}, Rule.{settled, Board, Phase, Shows}}
use Rattle.arachne_rule.specs.Plays.{Carries, IsLive, Posts, Takes, KeepsName, Retires, Spends}
use Rattle.arachne_rule.specs.{Table.{Table, Mine, Holds}, Views.{with_context, noted}, declared.view.Carried.Carried}
use Rattle.arachne_rule.specs.declared.view.{Kind.Kind, Known.Known, Shape.Shape}
use Rattle.arachne_rule.specs.declared.view.Kind.TheVariants as kind

abbrev in-slot : {T : Type 0} → T → Option T → T
in-slot d None = d
in-slot d (Some v) = v

abbrev last-out : {T : Type 0} → T → List (ℕ × Option T) → T
last-out d [] = d
last-out d (z ∷ zs) = in-slot d z.1

-- the slot that was taken last has one value
pub same-value : {T : Type 0} (x y : ℕ) (v u : T) (l m : List (ℕ × Option T)) → (x, Some v) ∷ l ≡ (y, Some u) ∷ m → v ≡ u
same-value x y v u l m e = ap (last-out v) e

-- a map in which the value at x is written again
same-at : {A : Type 0} (f : ℕ → A) (x : ℕ) (v : A) → f x ≡ v → (y : ℕ) → f y ≡ with_at f x v y
same-at f x v e y = elim (cases_eq y x) [
  | inl g ↦ ap f g ∙ e ∙ sym (ap (with_at f x v) g ∙ with_at-same f x v)
  | inr n ↦ sym (with_at-other f x v y n)
]

module _ {T : Type 0} (tag_in : T → ℕ) (bits : ℕ) (shape : Shape) where
  abbrev n : ℕ
  n = contexts_in shape

  pub is-context : (s : Table T) (hs : Holds tag_in bits shape s) (x : ℕ) → x < n → IsContext hs.world x
  is-context s hs x x_in = subst (λ (m : ℕ). x < m) (λ j. sym hs.fits.cores j * sym hs.fits.slots j) x_in

  -- A step that writes a mark word, by the World after it with that word. If the context then stands at the place that
  -- its mark word shows, the word is the context's own, which the event may require.
  pub mark-event : (s : Table T) (hs : Holds tag_in bits shape s) (id weight : ℕ) (k : Known) → get_elem? s.views id ≡ some (held weight k)
      → (kind : Kind) (x new word : ℕ) (l : List (ℕ × Option T)) (act : Act (Option T)) (e : Event) (d : ℕ → Phase) (k' : Known) (home : ℕ → opt.Option (opt.Option (Option T)))
      → x < n → k'.records ≡ k.records → Allowed hs.world e → new ≡ word
      → (IsMarkOf bits (after hs.world e) x new → Makes bits hs.world (entry id kind x ((board_of n s).mark x) new e))
      → length (homes_after s.homes l act) ≡ length s.homes → ((y : ℕ) → y < n → get_elem? (homes_after s.homes l act) y ≡ home y)
      → ((a : Board T) → Shows tag_in bits (after hs.world e) d a → (d x).shown ≡ (after hs.world e).at x)
      → Shows tag_in bits (after hs.world e) d (record (board_of n s) { mark = with_at (board_of n s).mark x word; home = home; views = set s.views id (held weight k') })
      → Holds tag_in bits shape (stepped s x new id l (held weight (noted kind x ((board_of n s).mark x) new k')) act)
  mark-event s hs id weight k mine kind x new word l act e d k' home x_in kept allowed new_is makes long homes stands becomes =
      let b' : Board T = record (board_of n s) { mark = with_at (board_of n s).mark x new; home = home; views = set s.views id (held weight k') } in
      let shows : Shows tag_in bits (after hs.world e) d b' =
      subst (λ (q : ℕ). Shows tag_in bits (after hs.world e) d (record (board_of n s) { mark = with_at (board_of n s).mark x q; home = home; views = set s.views id (held weight k') })) (sym new_is) becomes in
      let z = same_size hs.world e in
      let x_is : IsContext (after hs.world e) x = subst (λ (m : ℕ). x < m) (λ j. sym (z.0 ∙ hs.fits.cores) j * sym (z.1 ∙ hs.fits.slots) j) x_in in
      let own = is-mark-of tag_in bits (after hs.world e) d b' shows (board_of n s).mark x new refl x_is (stands b' shows) in
      mark-made tag_in bits shape s hs id weight k mine kind x new l act e d k' home x_in kept allowed (makes own) long homes shows

  -- a context that its place names stands at the place that its mark word shows
  named-stands : (w : World) (d : ℕ → Phase) (x : ℕ) → IsContext w x → (d x).named ≡ true → (a : Board T) → Shows tag_in bits w d a → (d x).shown ≡ w.at x
  named-stands w d x x_is named a shows = named-shown (w.state x) (w.at x) (d x) (shows.contexts x x_is).coherent named

  -- so does a context that was held, and whose slot has gone home
  pub held-stands : (s : Table T) (hs : Holds tag_in bits shape s) (id x : ℕ) → IsContext hs.world x → IsHeldBy id (hs.world.state x)
      → (with_at hs.phase x (record (hs.phase x) { away = false }) x).shown ≡ hs.world.at x
  held-stands s hs id x x_is holds =
      ap (λ (u : Phase). u.shown) (with_at-same hs.phase x (record (hs.phase x) { away = false })) ∙ held-shown (hs.world.state x) (hs.world.at x) (hs.phase x) id (hs.shows.contexts x x_is).coherent holds

  -- ---- a post

  posts : (id weight : ℕ) (k : Known) (l : List (ℕ × Option T)) (c : Carried) (v : T) (new : ℕ) → c.context < n → Carries k c → c.held ≡ false → c.named ≡ true
      → new ≡ mark_word bits (marked_as mark.Ready c)
      → Allows (Holds tag_in bits shape) n id (held weight k, (c.context, Some v) ∷ l) c.context (λ _. new) (λ _. Posts tag_in (step n c.context new 0 none) (held weight k, (c.context, Some v) ∷ l) new)
  posts id weight k l c v new c_in has free named new_is s hs long mine small =
      let x : ℕ = c.context in
      let b : Board T = board_of n s in
      let x_is = is-context s hs x c_in in
      let r = post tag_in bits hs.world hs.phase b hs.shows id weight k mine x c v x_is has refl free named in
      let d : ℕ → Phase = with_at hs.phase x (settled c.place) in
      let e : Event = event.Post id x (tag_in v) in (
        held weight (noted kind.Post x (b.mark x) new (posted k c (tag_in v))),
        gives,
        tt,
        mark-event s hs id weight k mine kind.Post x new _ ((x, Some v) ∷ l) gives e d (posted k c (tag_in v)) (with_at b.home x (opt.some (opt.some (Some v)))) c_in refl r.0 new_is (λ word. inr (tag_in v, refl, word))
            (length-set s.homes x (opt.some (Some v))) (λ y _. home-set s.homes x (opt.some (Some v)) (omega (arith, c_in, hs.fits.homes)) y)
            (named-stands (after hs.world e) d x x_is (ap (λ (u : Phase). u.named) (with_at-same hs.phase x (settled c.place)))) r.1,
        λ f u f_at f_has slot. let one : c ≡ f = same-carried k c f has f_has (sym f_at) in
            let value : v ≡ u = same-value x f.context v u l l slot in
            (b.mark x, λ j. (held weight (noted kind.Post x (b.mark x) new (posted k (one j) (tag_in (value j)))), l)),
      )

  pub post-allowed : (slots id : ℕ) (me : Mine T) (c : Carried) (v : T) (x new : ℕ) → slots ≡ contexts_in shape → IsLive me → x ≡ c.context → x < slots → Carries me.0.known c → c.held ≡ false → c.named ≡ true
      → me.1 ≡ (c.context, Some v) ∷ rest me.1 → new ≡ mark_word bits (marked_as mark.Ready c)
      → Allows (Holds tag_in bits shape) slots id me x (λ _. new) (λ _. Posts tag_in (step slots x new 0 none) me new)
  post-allowed slots id me c v x new laid live there x_in has free named slot new_is =
      for-seat (λ m j e. Allows (Holds tag_in bits shape) m id e j (λ _. new) (λ _. Posts tag_in (step m j new 0 none) e new)) slots x n c.context me laid there live
      (subst (λ (z : List (ℕ × Option T)). Allows (Holds tag_in bits shape) n id (held me.0.weight me.0.known, z) c.context (λ _. new) (λ _. Posts tag_in (step n c.context new 0 none) (held me.0.weight me.0.known, z) new)) (sym slot)
      (posts id me.0.weight me.0.known (rest me.1) c v new (subst (λ (q : ℕ). q < n) there (subst (λ (m : ℕ). x < m) laid x_in)) has free named new_is))

  -- ---- a take

  takes-thread : (id weight : ℕ) (k : Known) (l : List (ℕ × Option T)) (x old new : ℕ) → x < n → (marked_of bits old).mark ≡ mark.Ready → new ≡ mark_word bits (record (marked_of bits old) { mark = mark.Held })
      → Allows (Holds tag_in bits shape) n id (held weight k, l) x (λ m. either (eqb m old) new m) (Takes tag_in bits (step n x old new none) (held weight k, l))
  takes-thread id weight k l x old new x_in is_ready new_is s hs long mine small =
      let w : World = hs.world in
      let b : Board T = board_of n s in
      let m : Marked = marked_of bits old in
      let F : ℕ → Type 0 = λ (q : ℕ). (u : Token Known) × (a : Act (Option T)) × Valid s.homes l a × Holds tag_in bits shape (stepped s x q id l u a)
      × Takes tag_in bits (step n x old new none) (held weight k, l) (get_or s.words x 0) (u, carried_after l a) in
      exchanged (get_or s.words x 0) old new F
      (λ hit.
      let x_is = is-context s hs x x_in in
      let r = take tag_in bits w hs.phase b hs.shows id weight k mine x m x_is (ap (marked_of bits) hit) is_ready in
      let v : T = r.0 in
      let k' : Known = with_context k (taken_context x m (tag_in v)) in
      let d : ℕ → Phase = with_at hs.phase x (taken_phase m.place) in
      let e : Event = event.Take id x in
      let now : IsHeldBy id ((after w e).state x) = subst (IsHeldBy id) (sym (with_at-same w.state x (taken id (w.state x)))) (taken-held id (w.state x) (r.2).ready) in (
        held weight (noted kind.Take x (b.mark x) new k'),
        takes x (Some v),
        r.1,
        mark-event s hs id weight k mine kind.Take x new _ l (takes x (Some v)) e d k' (with_at b.home x (opt.some opt.none)) x_in refl r.2 new_is (λ word. inr (refl, word))
            (length-set s.homes x opt.none) (λ y _. home-set s.homes x opt.none (omega (arith, x_in, hs.fits.homes)) y)
            (λ a shows. held-shown ((after w e).state x) (w.at x) (d x) id (shows.contexts x x_is).coherent now) r.3,
        ((λ _. (v, not-mine tag_in bits w hs.phase b hs.shows id weight k mine x x_is (ready-nobody (w.state x) (r.2).ready id), refl)), (λ miss. absurd (miss hit))),
      ))
      (λ miss. (
        held weight (noted kind.Take x (get_or s.words x 0) (get_or s.words x 0) k),
        keeps,
        tt,
        sees tag_in bits shape s hs id weight k mine kind.Take x l (inl (tt, refl, refl)),
        ((λ hit. absurd (miss hit)), (λ _. refl)),
      ))

  pub take-allowed : (slots id : ℕ) (me : Mine T) (x old new : ℕ) (m : Marked) → slots ≡ contexts_in shape → IsLive me → x < slots → marked_of bits old ≡ m → m.mark ≡ mark.Ready → new ≡ mark_word bits (record m { mark = mark.Held })
      → Allows (Holds tag_in bits shape) slots id me x (λ q. either (eqb q old) new q) (Takes tag_in bits (step slots x old new none) me)
  take-allowed slots id me x old new m laid live x_in read is_ready new_is =
      for-seat (λ a j e. Allows (Holds tag_in bits shape) a id e j (λ q. either (eqb q old) new q) (Takes tag_in bits (step a j old new none) e)) slots x n x me laid refl live
      (takes-thread id me.0.weight me.0.known me.1 x old new (subst (λ (a : ℕ). x < a) laid x_in) (ap (λ (u : Marked). u.mark) read ∙ is_ready) (new_is ∙ ap (λ (u : Marked). mark_word bits (record u { mark = mark.Held })) (sym read)))

  -- ---- the name of the context that was taken

  keeps-name : (id weight : ℕ) (k : Known) (l : List (ℕ × Option T)) (c : Carried) → c.context < n → Carries k c → c.held ≡ true
      → Allows (Holds tag_in bits shape) n id (held weight k, (c.context, None) ∷ l) (name_index n c.place) (λ _. c.context)
      (λ _. KeepsName (step n (name_index n c.place) c.context 0 none) (held weight k, (c.context, None) ∷ l) c.context)
  keeps-name id weight k l c c_in has holds s hs long mine small =
      let x : ℕ = c.context in
      let i : ℕ = name_index n c.place in
      let b : Board T = board_of n s in
      let x_is = is-context s hs x c_in in
      let p_is = (placed-in tag_in bits hs.world hs.phase b hs.shows id weight k mine c x_is has).0 in
      let r = keep_name tag_in bits hs.world hs.phase b hs.shows id weight k mine x c x_is has refl holds in
      let k' : Known = with_context k (record c { named = true; away = false }) in
      let d : ℕ → Phase = with_at hs.phase x (record (hs.phase x) { named = true; away = false }) in
      let home : ℕ → opt.Option (opt.Option (Option T)) = with_at b.home x (opt.some (opt.some None)) in
      let p_in : IsIn shape c.place = (omega (arith, p_is.0, hs.fits.cores), omega (arith, p_is.1, hs.fits.slots)) in (
        held weight (noted kind.KeepName i (b.name c.place) x k'),
        gives,
        tt,
        name-made tag_in bits shape s hs id weight k mine kind.KeepName c.place x ((x, None) ∷ l) gives event.Still d k' home p_in refl tt (inr refl)
            (length-set s.homes x (opt.some None)) (λ y _. home-set s.homes x (opt.some None) (omega (arith, c_in, hs.fits.homes)) y) r,
        λ f f_at f_has. let one : c ≡ f = same-carried k c f has f_has (sym f_at) in
            (b.name c.place, λ j. (held weight (noted kind.KeepName i (b.name c.place) x (with_context k (record (one j) { named = true; away = false }))), l)),
      )

  pub keep-name-allowed : (slots id : ℕ) (me : Mine T) (c : Carried) (x i : ℕ) → slots ≡ contexts_in shape → IsLive me → x ≡ c.context → x < slots → i ≡ name_index slots c.place → Carries me.0.known c → c.held ≡ true
      → me.1 ≡ (c.context, None) ∷ rest me.1
      → Allows (Holds tag_in bits shape) slots id me i (λ _. x) (λ _. KeepsName (step slots i x 0 none) me x)
  keep-name-allowed slots id me c x i laid live same x_in there has holds slot =
      subst (λ (y : ℕ). Allows (Holds tag_in bits shape) slots id me i (λ _. y) (λ _. KeepsName (step slots i y 0 none) me y)) (sym same)
      (for-seat (λ m j e. Allows (Holds tag_in bits shape) m id e j (λ _. c.context) (λ _. KeepsName (step m j c.context 0 none) e c.context)) slots i n (name_index n c.place) me laid (there ∙ ap (λ (m : ℕ). name_index m c.place) laid) live
      (subst (λ (z : List (ℕ × Option T)). Allows (Holds tag_in bits shape) n id (held me.0.weight me.0.known, z) (name_index n c.place) (λ _. c.context)
      (λ _. KeepsName (step n (name_index n c.place) c.context 0 none) (held me.0.weight me.0.known, z) c.context)) (sym slot)
      (keeps-name id me.0.weight me.0.known (rest me.1) c (subst (λ (q : ℕ). q < n) same (subst (λ (m : ℕ). x < m) laid x_in)) has holds)))

  -- ---- the end of a thread

  -- the mark word of a context that was held is written, and its slot is at home and empty
  ends : (s : Table T) (hs : Holds tag_in bits shape s) (id weight : ℕ) (k : Known) → get_elem? s.views id ≡ some (held weight k)
      → (l : List (ℕ × Option T)) (c : Carried) (new word : ℕ) (d : ℕ → Phase) (k' : Known) → c.context < n → Carries k c → c.away ≡ false → k'.records ≡ k.records
      → Allowed hs.world (event.Retire id c.context) → new ≡ word
      → ((a : Board T) → Shows tag_in bits (after hs.world (event.Retire id c.context)) d a → (d c.context).shown ≡ hs.world.at c.context)
      → Shows tag_in bits (after hs.world (event.Retire id c.context)) d
      (record (board_of n s) { mark = with_at (board_of n s).mark c.context word; home = with_at (board_of n s).home c.context (opt.some (opt.some None)); views = set s.views id (held weight k') })
      → Holds tag_in bits shape (stepped s c.context new id l (held weight (noted kind.Retire c.context ((board_of n s).mark c.context) new k')) keeps)
  ends s hs id weight k mine l c new word d k' c_in has home kept allowed new_is stands becomes =
      let b : Board T = board_of n s in
      let empty = home-empty tag_in bits hs.world hs.phase b hs.shows id weight k mine c (is-context s hs c.context c_in) has home in
      mark-event s hs id weight k mine kind.Retire c.context new word l keeps (event.Retire id c.context) d k' (with_at b.home c.context (opt.some (opt.some None))) c_in kept allowed new_is (λ own. inr (refl, own)) refl
      (λ y _. same-at b.home c.context (opt.some (opt.some None)) empty y) stands becomes

  retires : (id weight : ℕ) (k : Known) (l : List (ℕ × Option T)) (c : Carried) (new : ℕ) → c.context < n → Carries k c → c.held ≡ true → c.named ≡ true → c.away ≡ false → c.generation < shape.last
      → new ≡ mark_word bits (marked_free (claimed_again c))
      → Allows (Holds tag_in bits shape) n id (held weight k, l) c.context (λ _. new) (Retires (step n c.context new 0 none) (held weight k, l))
  retires id weight k l c new c_in has holds named home below new_is s hs long mine small =
      let x : ℕ = c.context in
      let b : Board T = board_of n s in
      let x_is = is-context s hs x c_in in
      let r = retire tag_in bits hs.world hs.phase b hs.shows id weight k mine x c x_is has refl holds named (omega (arith, below, hs.fits.last)) in
      let d : ℕ → Phase = with_at hs.phase x (settled c.place) in (
        held weight (noted kind.Retire x (b.mark x) new (retired k c)),
        keeps,
        tt,
        ends s hs id weight k mine l c new _ d (retired k c) c_in has home refl r.0 new_is
            (named-stands (after hs.world (event.Retire id x)) d x x_is (ap (λ (u : Phase). u.named) (with_at-same hs.phase x (settled c.place)))) r.1,
        λ f f_at f_has. let one : c ≡ f = same-carried k c f has f_has (sym f_at) in λ j. (held weight (noted kind.Retire x (b.mark x) new (retired k (one j))), l),
      )

  pub retire-allowed : (slots id : ℕ) (me : Mine T) (c : Carried) (x new : ℕ) → slots ≡ contexts_in shape → IsLive me → x ≡ c.context → x < slots → Carries me.0.known c → c.held ≡ true → c.named ≡ true → c.away ≡ false
      → c.generation < shape.last → new ≡ mark_word bits (marked_free (claimed_again c))
      → Allows (Holds tag_in bits shape) slots id me x (λ _. new) (Retires (step slots x new 0 none) me)
  retire-allowed slots id me c x new laid live there x_in has holds named home below new_is =
      for-seat (λ m j e. Allows (Holds tag_in bits shape) m id e j (λ _. new) (Retires (step m j new 0 none) e)) slots x n c.context me laid there live
      (retires id me.0.weight me.0.known me.1 c new (subst (λ (q : ℕ). q < n) there (subst (λ (m : ℕ). x < m) laid x_in)) has holds named home below new_is)

  spends : (id weight : ℕ) (k : Known) (l : List (ℕ × Option T)) (c : Carried) (new : ℕ) → c.context < n → Carries k c → c.held ≡ true → c.away ≡ false → c.generation ≡ shape.last
      → new ≡ mark_word bits (marked_spent c)
      → Allows (Holds tag_in bits shape) n id (held weight k, l) c.context (λ _. new) (Spends (step n c.context new 0 none) (held weight k, l))
  spends id weight k l c new c_in has holds home last new_is s hs long mine small =
      let x : ℕ = c.context in
      let b : Board T = board_of n s in
      let x_is = is-context s hs x c_in in
      let r = spend tag_in bits hs.world hs.phase b hs.shows id weight k mine x c x_is has refl holds (last ∙ sym hs.fits.last) in (
        held weight (noted kind.Retire x (b.mark x) new (spent_known k c)),
        keeps,
        tt,
        ends s hs id weight k mine l c new _ (with_at hs.phase x (record (hs.phase x) { away = false })) (spent_known k c) c_in has home refl r.0 new_is
            (λ a shows. held-stands s hs id x x_is (r.0).held) r.1,
        λ f f_at f_has. let one : c ≡ f = same-carried k c f has f_has (sym f_at) in λ j. (held weight (noted kind.Retire x (b.mark x) new (spent_known k (one j))), l),
      )

  pub spend-allowed : (slots id : ℕ) (me : Mine T) (c : Carried) (x new : ℕ) → slots ≡ contexts_in shape → IsLive me → x ≡ c.context → x < slots → Carries me.0.known c → c.held ≡ true → c.away ≡ false
      → c.generation ≡ shape.last → new ≡ mark_word bits (marked_spent c)
      → Allows (Holds tag_in bits shape) slots id me x (λ _. new) (Spends (step slots x new 0 none) me)
  spend-allowed slots id me c x new laid live there x_in has holds home last new_is =
      for-seat (λ m j e. Allows (Holds tag_in bits shape) m id e j (λ _. new) (Spends (step m j new 0 none) e)) slots x n c.context me laid there live
      (spends id me.0.weight me.0.known me.1 c new (subst (λ (q : ℕ). q < n) there (subst (λ (m : ℕ). x < m) laid x_in)) has holds home last new_is)
