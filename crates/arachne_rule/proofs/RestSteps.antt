-- The conditions of the table for the steps that put a thread back or wake it. Each step's lemma shows the World after
-- it, with the word that it writes (`rests`, `wakes`); `mark-event` makes the rule from that. The conditions for the
-- end of a hold are in `Resting`, those for a wake in `Waking`.
use Rattle.std.proofs.Common.{Some, ◌≡◌, ℕ, ◌<◌, true, false, List, ◌∷◌, length-set, refl, sym, ap, ◌∙◌, subst, arith, inl, inr, set, get_or, Option, eqb}
use mathlib.Core.Option.{some, none}
use mathlib.Core.Option as opt
use lib.ListN.{get_elem?}
use prog.Atomic.{either}
use Rattle.atomic_table.specs.Table.{Act, keeps, gives, step, stepped, Allows, Valid, carried_after, rest}
use Rattle.atomic_table.proofs.Lists.{exchanged}
use Rattle.arachne_core.specs.declared.state.Rest.TheVariants as put
use Rattle.arachne_core.specs.declared.event.Event.TheVariants as event
use Rattle.arachne_core.specs.declared.mark.Mark.TheVariants as mark
use Rattle.arachne_core.specs.Marked.{Marked, mark_word, marked_of}
use Rattle.arachne_core.specs.{World.{IsContext, IsHeldBy, with_at, after, Allowed}, declared.event.Event.Event}
use Rattle.arachne_weights.specs.{declared.token.Token.Token, Tokens.held}
use Rattle.arachne_rule.specs.declared.view.{Carried.Carried, Known.Known, Shape.Shape, Kind.Kind}
use Rattle.arachne_rule.specs.declared.view.Kind.TheVariants as kind
use Rattle.arachne_rule.specs.{Views.{without_context, noted}, Rule.{Board, Shows}, Changes.marked_as}
use Rattle.arachne_rule.specs.{Layout.{contexts_in, board_of}, History.{IsExchange, IsMarkOf, EventOf, Makes}}
use Rattle.arachne_rule.specs.{Table.{Table, Mine, Holds}, Plays.{Carries, IsLive, RestsReady, RestsBlocked, Wakes}}
use Rattle.arachne_rule.proofs.{LookSteps.mark-packed, Resting.{rest_ready, rest_blocked}}
use Rattle.arachne_rule.proofs.{Waking.{wake_blocked, wake_held}, Seen.waiting-shown, Boards.home-set, Histories.entry}
use Rattle.arachne_rule.proofs.{Stepping.{sees, for-seat}, OwnWords.{same-carried, says-carried}}
use Rattle.arachne_rule.proofs.ThreadSteps.{is-context, mark-event, held-stands}

module _ {T : Type 0} (tag_in : T → ℕ) (bits : ℕ) (shape : Shape) where
  abbrev n : ℕ
  n = contexts_in shape

  -- the mark word of a held context is written, and its value goes home
  rests : (s : Table T) (hs : Holds tag_in bits shape s) (id weight : ℕ) (k : Known) → get_elem? s.views id ≡ some (held weight k)
      → (kind : Kind) (l : List (ℕ × Option T)) (c : Carried) (v : T) (new word : ℕ) (e : Event) → c.context < n → IsHeldBy id (hs.world.state c.context)
      → Allowed hs.world e → (after hs.world e).at c.context ≡ hs.world.at c.context → new ≡ word
      → (IsMarkOf bits (after hs.world e) c.context new → Makes bits hs.world (entry id kind c.context ((board_of n s).mark c.context) new e))
      → Shows tag_in bits (after hs.world e) (with_at hs.phase c.context (record (hs.phase c.context) { away = false })) (record (board_of n s) {
        mark = with_at (board_of n s).mark c.context word;
        home = with_at (board_of n s).home c.context (opt.some (opt.some (Some v)));
        views = set s.views id (held weight (without_context k c));
      })
      → Holds tag_in bits shape (stepped s c.context new id ((c.context, Some v) ∷ l) (held weight (noted kind c.context ((board_of n s).mark c.context) new (without_context k c))) gives)
  rests s hs id weight k mine kind l c v new word e c_in holds allowed stays new_is makes becomes =
      let x : ℕ = c.context in
      mark-event tag_in bits shape s hs id weight k mine kind x new word ((x, Some v) ∷ l) gives e (with_at hs.phase x (record (hs.phase x) { away = false })) (without_context k c)
      (with_at (board_of n s).home x (opt.some (opt.some (Some v)))) c_in refl allowed new_is makes
      (length-set s.homes x (opt.some (Some v))) (λ y _. home-set s.homes x (opt.some (Some v)) (omega (arith, c_in, hs.fits.homes)) y)
      (λ a shows. held-stands tag_in bits shape s hs id x (is-context tag_in bits shape s hs x c_in) holds ∙ sym stays) becomes

  -- ---- a thread is put back as ready

  rests-ready : (id weight : ℕ) (k : Known) (l : List (ℕ × Option T)) (c : Carried) (v : T) (new : ℕ) → c.context < n → Carries k c → c.held ≡ true → tag_in v ≡ c.tag
      → new ≡ mark_word bits (marked_as mark.Ready c)
      → Allows (Holds tag_in bits shape) n id (held weight k, (c.context, Some v) ∷ l) c.context (λ _. new) (λ _. RestsReady (step n c.context new 0 none) (held weight k, (c.context, Some v) ∷ l) new)
  rests-ready id weight k l c v new c_in has holds tagged new_is s hs long mine small =
      let x : ℕ = c.context in
      let b : Board T = board_of n s in
      let r = rest_ready tag_in bits hs.world hs.phase b hs.shows id weight k mine x c v (is-context tag_in bits shape s hs x c_in) has refl holds tagged in (
        held weight (noted kind.RestReady x (b.mark x) new (without_context k c)),
        gives,
        tt,
        rests s hs id weight k mine kind.RestReady l c v new _ (event.Rest id x put.Ready) c_in (r.0).held r.0 refl new_is (λ word. inr (refl, word)) r.1,
        λ f f_at f_has. let one : c ≡ f = same-carried k c f has f_has (sym f_at) in (b.mark x, λ j. (held weight (noted kind.RestReady x (b.mark x) new (without_context k (one j))), l)),
      )

  pub rest-ready-allowed : (slots id : ℕ) (me : Mine T) (c : Carried) (v : T) (x new : ℕ) → slots ≡ contexts_in shape → IsLive me → x ≡ c.context → x < slots → Carries me.0.known c → c.held ≡ true
      → me.1 ≡ (c.context, Some v) ∷ rest me.1 → tag_in v ≡ c.tag → new ≡ mark_word bits (marked_as mark.Ready c)
      → Allows (Holds tag_in bits shape) slots id me x (λ _. new) (λ _. RestsReady (step slots x new 0 none) me new)
  rest-ready-allowed slots id me c v x new laid live there x_in has holds slot tagged new_is =
      for-seat (λ m j e. Allows (Holds tag_in bits shape) m id e j (λ _. new) (λ _. RestsReady (step m j new 0 none) e new)) slots x n c.context me laid there live
      (subst (λ (z : List (ℕ × Option T)). Allows (Holds tag_in bits shape) n id (held me.0.weight me.0.known, z) c.context (λ _. new) (λ _. RestsReady (step n c.context new 0 none) (held me.0.weight me.0.known, z) new)) (sym slot)
      (rests-ready id me.0.weight me.0.known (rest me.1) c v new (subst (λ (q : ℕ). q < n) there (subst (λ (m : ℕ). x < m) laid x_in)) has holds tagged new_is))

  -- ---- a thread is put back as blocked

  rests-blocked : (id weight : ℕ) (k : Known) (l : List (ℕ × Option T)) (c : Carried) (v : T) (old new : ℕ) → c.context < n → Carries k c → c.held ≡ true → tag_in v ≡ c.tag
      → (marked_of bits old).mark ≡ mark.Held → new ≡ mark_word bits (marked_as mark.Blocked c)
      → Allows (Holds tag_in bits shape) n id (held weight k, (c.context, Some v) ∷ l) c.context (λ q. either (eqb q old) new q) (RestsBlocked bits (step n c.context old new none) (held weight k, (c.context, Some v) ∷ l))
  rests-blocked id weight k l c v old new c_in has holds tagged is_held new_is s hs long mine small =
      let x : ℕ = c.context in
      let b : Board T = board_of n s in
      let out : List (ℕ × Option T) = (x, Some v) ∷ l in
      let me : Mine T = (held weight k, out) in
      let F : ℕ → Type 0 = λ (q : ℕ). (u : Token Known) × (a : Act (Option T)) × Valid s.homes out a × Holds tag_in bits shape (stepped s x q id out u a)
      × RestsBlocked bits (step n x old new none) me (get_or s.words x 0) (u, carried_after out a) in
      exchanged (get_or s.words x 0) old new F
      (λ hit.
      let r = rest_blocked tag_in bits hs.world hs.phase b hs.shows id weight k mine x c v (marked_of bits old) (is-context tag_in bits shape s hs x c_in) has refl holds tagged (ap (marked_of bits) hit) is_held in (
        held weight (noted kind.RestBlocked x (b.mark x) new (without_context k c)),
        gives,
        tt,
        rests s hs id weight k mine kind.RestBlocked l c v new _ (event.Rest id x put.Blocked) c_in (r.0).held r.0 refl new_is (λ word. inr (refl, word)) r.1,
        λ f f_at f_has. let one : c ≡ f = same-carried k c f has f_has (sym f_at) in
            ((λ _. λ j. (held weight (noted kind.RestBlocked x (b.mark x) new (without_context k (one j))), l)), (λ miss. absurd (miss hit))),
      ))
      (λ miss. (
        held weight (noted kind.RestBlocked x (get_or s.words x 0) (get_or s.words x 0) k),
        keeps,
        tt,
        sees tag_in bits shape s hs id weight k mine kind.RestBlocked x out (inl (tt, refl, refl)),
        λ f f_at f_has. (
          (λ hit. absurd (miss hit)),
          (λ _. (
            mark-packed tag_in bits shape s hs x c_in small,
            says-carried tag_in bits hs.world hs.phase b hs.shows id weight k mine x f (is-context tag_in bits shape s hs x c_in) f_at f_has,
            refl,
          )),
        ),
      ))

  pub rest-blocked-allowed : (slots id : ℕ) (me : Mine T) (c : Carried) (v : T) (x old new : ℕ) → slots ≡ contexts_in shape → IsLive me → x ≡ c.context → x < slots → Carries me.0.known c → c.held ≡ true
      → me.1 ≡ (c.context, Some v) ∷ rest me.1 → tag_in v ≡ c.tag → (marked_of bits old).mark ≡ mark.Held → new ≡ mark_word bits (marked_as mark.Blocked c)
      → Allows (Holds tag_in bits shape) slots id me x (λ q. either (eqb q old) new q) (RestsBlocked bits (step slots x old new none) me)
  rest-blocked-allowed slots id me c v x old new laid live there x_in has holds slot tagged is_held new_is =
      for-seat (λ m j e. Allows (Holds tag_in bits shape) m id e j (λ q. either (eqb q old) new q) (RestsBlocked bits (step m j old new none) e)) slots x n c.context me laid there live
      (subst (λ (z : List (ℕ × Option T)). Allows (Holds tag_in bits shape) n id (held me.0.weight me.0.known, z) c.context (λ q. either (eqb q old) new q) (RestsBlocked bits (step n c.context old new none) (held me.0.weight me.0.known, z))) (sym slot)
      (rests-blocked id me.0.weight me.0.known (rest me.1) c v old new (subst (λ (q : ℕ). q < n) there (subst (λ (m : ℕ). x < m) laid x_in)) has holds tagged is_held new_is))

  -- ---- a wake

  -- the thread of the context is woken, in the generation of its mark word
  abbrev waking : Table T → ℕ → Event
  waking s x = event.Wake (record { context = x; generation = (marked_of bits (get_or s.words x 0)).generation })

  -- the exchange of a mark word with the fields m, by the World after it with the new word
  wakes : (id weight : ℕ) (k : Known) (l : List (ℕ × Option T)) (x old new : ℕ) (m : Marked) (how : Kind) → x < n → marked_of bits old ≡ m → IsExchange how
      → ((s : Table T) (hs : Holds tag_in bits shape s) → get_elem? s.views id ≡ some (held weight k) → IsContext hs.world x → marked_of bits (get_or s.words x 0) ≡ m
      → (IsMarkOf bits (after hs.world (waking s x)) x new → EventOf bits hs.world id how x (get_or s.words x 0) new (waking s x))
      × Allowed hs.world (waking s x)
      × (word : ℕ) × (new ≡ word)
      × Shows tag_in bits (after hs.world (waking s x)) hs.phase (record (board_of n s) { mark = with_at (board_of n s).mark x word; views = set s.views id (held weight k) }))
      → Allows (Holds tag_in bits shape) n id (held weight k, l) x (λ q. either (eqb q old) new q) (Wakes how (step n x old new none) (held weight k, l))
  wakes id weight k l x old new m how x_in read tried law s hs long mine small =
      let F : ℕ → Type 0 = λ (q : ℕ). (u : Token Known) × (a : Act (Option T)) × Valid s.homes l a × Holds tag_in bits shape (stepped s x q id l u a)
      × Wakes how (step n x old new none) (held weight k, l) (get_or s.words x 0) (u, carried_after l a) in
      exchanged (get_or s.words x 0) old new F
      (λ hit.
      let x_is = is-context tag_in bits shape s hs x x_in in
      let r = law s hs mine x_is (ap (marked_of bits) hit ∙ read) in (
        held weight (noted how x ((board_of n s).mark x) new k),
        keeps,
        tt,
        mark-event tag_in bits shape s hs id weight k mine how x new r.2 l keeps (waking s x) hs.phase k (board_of n s).home x_in refl r.1 r.3 (λ word. inr (r.0 word)) refl (λ y _. refl)
            (λ a shows. waiting-shown (hs.world.state x) (hs.world.at x) (hs.phase x) (r.1).waits (hs.shows.contexts x x_is).coherent) r.4,
        ((λ _. refl), (λ miss. absurd (miss hit))),
      ))
      (λ miss. (
        held weight (noted how x (get_or s.words x 0) (get_or s.words x 0) k),
        keeps,
        tt,
        sees tag_in bits shape s hs id weight k mine how x l (inl (tried, refl, refl)),
        ((λ hit. absurd (miss hit)), (λ _. refl)),
      ))

  -- BLOCKED to READY
  pub wake-allowed : (slots id : ℕ) (me : Mine T) (x old new : ℕ) (m : Marked) → slots ≡ contexts_in shape → IsLive me → x < slots → marked_of bits old ≡ m → m.mark ≡ mark.Blocked → new ≡ mark_word bits (record m { mark = mark.Ready })
      → Allows (Holds tag_in bits shape) slots id me x (λ q. either (eqb q old) new q) (Wakes kind.Wake (step slots x old new none) me)
  wake-allowed slots id me x old new m laid live x_in read is_blocked new_is =
      for-seat (λ a j e. Allows (Holds tag_in bits shape) a id e j (λ q. either (eqb q old) new q) (Wakes kind.Wake (step a j old new none) e)) slots x n x me laid refl live
      (wakes id me.0.weight me.0.known me.1 x old new m kind.Wake (subst (λ (a : ℕ). x < a) laid x_in) read tt (λ s hs mine x_is at.
      let r = wake_blocked tag_in bits hs.world hs.phase (board_of n s) hs.shows id me.0.weight me.0.known mine x (marked_of bits (get_or s.words x 0)) x_is refl (ap (λ (q : Marked). q.mark) at ∙ is_blocked) in
      ((λ word. (refl, word)), r.0, mark_word bits (record (marked_of bits (get_or s.words x 0)) { mark = mark.Ready }), new_is ∙ ap (λ (q : Marked). mark_word bits (record q { mark = mark.Ready })) (sym at), r.1)))

  -- HELD to WOKEN
  pub mark-woken-allowed : (slots id : ℕ) (me : Mine T) (x old new : ℕ) (m : Marked) → slots ≡ contexts_in shape → IsLive me → x < slots → marked_of bits old ≡ m → m.mark ≡ mark.Held → new ≡ mark_word bits (record m { mark = mark.Woken })
      → Allows (Holds tag_in bits shape) slots id me x (λ q. either (eqb q old) new q) (Wakes kind.MarkWoken (step slots x old new none) me)
  mark-woken-allowed slots id me x old new m laid live x_in read is_held new_is =
      for-seat (λ a j e. Allows (Holds tag_in bits shape) a id e j (λ q. either (eqb q old) new q) (Wakes kind.MarkWoken (step a j old new none) e)) slots x n x me laid refl live
      (wakes id me.0.weight me.0.known me.1 x old new m kind.MarkWoken (subst (λ (a : ℕ). x < a) laid x_in) read tt (λ s hs mine x_is at.
      let r = wake_held tag_in bits hs.world hs.phase (board_of n s) hs.shows id me.0.weight me.0.known mine x (marked_of bits (get_or s.words x 0)) x_is refl (ap (λ (q : Marked). q.mark) at ∙ is_held) in
      ((λ word. (refl, word)), r.0, mark_word bits (record (marked_of bits (get_or s.words x 0)) { mark = mark.Woken }), new_is ∙ ap (λ (q : Marked). mark_word bits (record q { mark = mark.Woken })) (sym at), r.1)))
