-- The conditions of the table for the steps of a move: the exchange of the mark word, the two place words, and the mark
-- word of the context whose place was taken.
use Rattle.std.proofs.Common.{◌≡◌, ◌≢◌, ℕ, ◌<◌, true, false, List, refl, sym, ap, ◌∙◌, subst, arith, inl, inr, set, get_or, Option, eqb}
use Rattle.std.proofs.lemmas.Bool.{cond-true, cond-false, eq-eqb, ne_eqb}
use mathlib.Core.Option.{none}
use prog.Atomic.{either}
use Rattle.atomic_table.{specs.Table.{Act, keeps, step, stepped, Allows, Valid, carried_after}, proofs.Lists.exchanged}
use Rattle.arachne_core.specs.{declared.{place.Place.Place, event.Event.Event}, Marked.{Marked, mark_word, marked_of}}
use Rattle.arachne_core.{specs.World.{World, IsContext, IsPlace, with_at, after}, proofs.MarkWords.marked_of-mark_word}
use Rattle.arachne_core.specs.declared.event.Event.TheVariants as event
use Rattle.arachne_weights.specs.{declared.token.Token.Token, Tokens.held}
use Rattle.arachne_rule.proofs.{Boards.IsIn, Move.move, Naming.{name_target, replace, name_source}, Noted.noted_board}
use Rattle.arachne_rule.proofs.{OwnWords.{same-carried, same-at-place, placed-in}, Shares.my-share, Slots.carried-says}
use Rattle.arachne_rule.proofs.{Seen.{seen, rest-coherent, is-mark-of}, Stepping.{sees, mark-made, name-made, for-seat}}
use Rattle.arachne_rule.{proofs.ThreadSteps.is-context, specs.Layout.{contexts_in, name_index, board_of}}
use Rattle.arachne_rule.specs.{Changes.{with_name, left_context, marked_free, moved_phase}, History.IsMarkOf}
use Rattle.arachne_rule.specs.Plays.{Carries, IsRestMark, IsLive, Moves, NamesTarget, Replaces, NamesSource}
use Rattle.arachne_rule.specs.{Rule.{settled, carried_of, Board, Phase, Shows}, Table.{Table, Mine, Holds}}
use Rattle.arachne_rule.specs.{Views.{with_context, noted}, declared.view.{Carried.Carried, Known.Known, Shape.Shape}}
use Rattle.arachne_rule.specs.declared.view.Kind.TheVariants as kind

module _ {T : Type 0} (tag_in : T → ℕ) (bits : ℕ) (shape : Shape) where
  abbrev n : ℕ
  n = contexts_in shape

  in-place : (s : Table T) (hs : Holds tag_in bits shape s) (p : Place) → IsPlace hs.world p → IsIn shape p
  in-place s hs p p_in = (omega (arith, p_in.0, hs.fits.cores), omega (arith, p_in.1, hs.fits.slots))

  -- ---- the exchange

  moves : (id weight : ℕ) (k : Known) (l : List (ℕ × Option T)) (c : Carried) (x old new : ℕ) → x < n → c.context < n → IsRestMark (marked_of bits old).mark → (marked_of bits old).alone ≡ false
      → Carries k c → c.held ≡ false → c.named ≡ true → c.alone ≡ false → (marked_of bits old).place.core ≢ c.place.core
      → new ≡ mark_word bits (record (marked_of bits old) { place = c.place })
      → Allows (Holds tag_in bits shape) n id (held weight k, l) x (λ q. either (eqb q old) new q) (Moves bits (step n x old new none) (held weight k, l))
  moves id weight k l c x old new x_in c_in rests shared has free named mine_shared apart new_is s hs long mine small =
      let w : World = hs.world in
      let b : Board T = board_of n s in
      let m : Marked = marked_of bits old in
      let y : ℕ = c.context in
      let y_is : IsContext w y = is-context tag_in bits shape s hs y c_in in
      let x_is : IsContext w x = is-context tag_in bits shape s hs x x_in in
      let F : ℕ → Type 0 = λ (q : ℕ). (u : Token Known) × (a : Act (Option T)) × Valid s.homes l a × Holds tag_in bits shape (stepped s x q id l u a)
      × Moves bits (step n x old new none) (held weight k, l) (get_or s.words x 0) (u, carried_after l a) in
      let at : IsPlace w c.place = (placed-in tag_in bits w hs.phase b hs.shows id weight k mine c y_is has).0 in
      let place_is : c.place ≡ w.at y = carried-says (w.state y) id (carried_of w hs.phase y) (λ (u : Carried). u.place) c (w.at y) (my-share tag_in bits w hs.phase b hs.shows id weight k mine y c y_is has) (λ q t. refl) in
      let reads : (marked_of bits new).place ≡ c.place = ap (λ (q : ℕ). (marked_of bits q).place) new_is
      ∙ ap (λ (u : Marked). u.place) (marked_of-mark_word bits (record m { place = c.place }) (omega (arith, at.1, hs.shows.fits.1)) (omega (arith, at.0, hs.shows.fits.0))) in
      let only : (f : Carried) → f.context < n → Carries k f → (marked_of bits new).place ≡ f.place → c ≡ f = λ f f_in f_has f_at.
      same-at-place tag_in bits w hs.phase b hs.shows id weight k mine c f y_is (is-context tag_in bits shape s hs f.context f_in) has f_has (sym reads ∙ f_at) in
      exchanged (get_or s.words x 0) old new F
      (λ hit.
      let r = move tag_in bits w hs.phase b hs.shows id weight k mine x y m c x_is y_is (ap (marked_of bits) hit) rests shared has refl free named mine_shared apart in
      let k' : Known = with_context k (left_context c m.place) in
      let e : Event = event.Move id x y in
      let d : ℕ → Phase = moved_phase hs.phase x y c.place in
      let was : (marked_of bits (get_or s.words x 0)).place ≡ w.at x = ap (λ (u : Marked). u.place) (seen tag_in bits w hs.phase b hs.shows x x_is) ∙ (rest-coherent (w.state x) (w.at x) (hs.phase x) r.0.at_rest (hs.shows.contexts x x_is).coherent).1 in
      let b' : Board T = record b { mark = with_at b.mark x new; views = set s.views id (held weight k') } in
      let shows : Shows tag_in bits (after w e) d b' =
      subst (λ (q : ℕ). Shows tag_in bits (after w e) d (record b { mark = with_at b.mark x q; views = set s.views id (held weight k') })) (sym new_is) r.1 in
      let word : IsMarkOf bits (after w e) x new = is-mark-of tag_in bits (after w e) d b' shows b.mark x new refl x_is
      (rest-coherent (w.state x) ((after w e).at x) (d x) r.0.at_rest (shows.contexts x x_is).coherent).1 in (
        held weight (noted kind.Move x (b.mark x) new k'),
        keeps,
        tt,
        mark-made tag_in bits shape s hs id weight k mine kind.Move x new l keeps e d k' b.home x_in refl r.0 (inr (y, was, reads ∙ place_is, refl, word)) refl (λ z _. refl) shows,
        λ f f_in f_has f_at. let one : c ≡ f = only f f_in f_has f_at in
            ((λ _. λ j. (held weight (noted kind.Move x (b.mark x) new (with_context k (left_context (one j) m.place))), l)), (λ miss. absurd (miss hit))),
      ))
      (λ miss. (
        held weight (noted kind.Move x (get_or s.words x 0) (get_or s.words x 0) k),
        keeps,
        tt,
        sees tag_in bits shape s hs id weight k mine kind.Move x l (inl (tt, refl, refl)),
        λ f f_in f_has f_at. ((λ hit. absurd (miss hit)), (λ _. refl)),
      ))

  pub move-allowed : (slots id : ℕ) (me : Mine T) (c : Carried) (x old new : ℕ) (m : Marked) → slots ≡ contexts_in shape → IsLive me → x < slots → c.context < slots → marked_of bits old ≡ m → IsRestMark m.mark → m.alone ≡ false
      → Carries me.0.known c → c.held ≡ false → c.named ≡ true → c.alone ≡ false → m.place.core ≢ c.place.core → new ≡ mark_word bits (record m { place = c.place })
      → Allows (Holds tag_in bits shape) slots id me x (λ q. either (eqb q old) new q) (Moves bits (step slots x old new none) me)
  move-allowed slots id me c x old new m laid live x_in c_in read rests shared has free named mine_shared apart new_is =
      for-seat (λ a j e. Allows (Holds tag_in bits shape) a id e j (λ q. either (eqb q old) new q) (Moves bits (step a j old new none) e)) slots x n x me laid refl live
      (moves id me.0.weight me.0.known me.1 c x old new (subst (λ (a : ℕ). x < a) laid x_in) (subst (λ (a : ℕ). c.context < a) laid c_in)
      (subst (λ (u : Marked). IsRestMark u.mark) (sym read) rests) (ap (λ (u : Marked). u.alone) read ∙ shared) has free named mine_shared
      (subst (λ (u : Marked). u.place.core ≢ c.place.core) (sym read) apart) (new_is ∙ ap (λ (u : Marked). mark_word bits (record u { place = c.place })) (sym read)))

  -- ---- the place word of the place that was taken: from the context that stood there to the one that came

  names-target : (id weight : ℕ) (k : Known) (l : List (ℕ × Option T)) (q : Place) (c : Carried) (x old : ℕ) → IsIn shape q → x < n → c.context < n → Carries k c → c.held ≡ false → c.named ≡ false → old ≡ c.context
      → Allows (Holds tag_in bits shape) n id (held weight k, l) (name_index n q) (λ m. either (eqb m old) x m) (NamesTarget (step n (name_index n q) old x none) (held weight k, l))
  names-target id weight k l q c x old q_in x_in c_in has free unnamed old_is s hs long mine small =
      let w : World = hs.world in
      let b : Board T = board_of n s in
      let i : ℕ = name_index n q in
      let found : ℕ = get_or s.words i 0 in
      let tells : ℕ → Mine T = λ (a : ℕ). (held weight (noted kind.NameTarget i found a k), l) in
      let F : ℕ → Type 0 = λ (m : ℕ). (u : Token Known) × (a : Act (Option T)) × Valid s.homes l a × Holds tag_in bits shape (stepped s i m id l u a)
      × NamesTarget (step n i old x none) (held weight k, l) found (u, carried_after l a) in
      exchanged found old x F
      (λ hit.
      let r = name_target tag_in bits w hs.phase b hs.shows id weight k mine q x c.context c (is-context tag_in bits shape s hs x x_in) (is-context tag_in bits shape s hs c.context c_in) (hit ∙ old_is) has free unnamed in (
        held weight (noted kind.NameTarget i found x k),
        keeps,
        tt,
        name-made tag_in bits shape s hs id weight k mine kind.NameTarget q x l keeps event.Still hs.phase k b.home q_in refl tt (inr refl) refl (λ z _. refl)
            (noted_board tag_in bits w hs.phase (record b { name = with_name b.name q x }) r id weight k mine k refl refl refl),
        ap tells (sym (cond-true (eqb found old) x found (eq-eqb found old hit))),
      ))
      (λ miss. (
        held weight (noted kind.NameTarget i found found k),
        keeps,
        tt,
        sees tag_in bits shape s hs id weight k mine kind.NameTarget i l (inl (tt, refl, refl)),
        ap tells (sym (cond-false (eqb found old) x found (ne_eqb found old miss))),
      ))

  pub name-target-allowed : (slots id : ℕ) (me : Mine T) (q : Place) (c : Carried) (i x old : ℕ) → slots ≡ contexts_in shape → IsLive me → i ≡ name_index slots q → q.core < shape.cores → q.index < shape.places_per_core → x < slots → c.context < slots
      → Carries me.0.known c → c.held ≡ false → c.named ≡ false → old ≡ c.context
      → Allows (Holds tag_in bits shape) slots id me i (λ m. either (eqb m old) x m) (NamesTarget (step slots i old x none) me)
  name-target-allowed slots id me q c i x old laid live there core_in index_in x_in c_in has free unnamed old_is =
      for-seat (λ a j e. Allows (Holds tag_in bits shape) a id e j (λ m. either (eqb m old) x m) (NamesTarget (step a j old x none) e)) slots i n (name_index n q) me laid (there ∙ ap (λ (a : ℕ). name_index a q) laid) live
      (names-target id me.0.weight me.0.known me.1 q c x old (core_in, index_in) (subst (λ (a : ℕ). x < a) laid x_in) (subst (λ (a : ℕ). c.context < a) laid c_in) has free unnamed old_is)

  -- ---- the mark word of the context whose place was taken

  replaces : (id weight : ℕ) (k : Known) (l : List (ℕ × Option T)) (c : Carried) (new : ℕ) → c.context < n → Carries k c → c.held ≡ false → new ≡ mark_word bits (marked_free c)
      → Allows (Holds tag_in bits shape) n id (held weight k, l) c.context (λ _. new) (λ _. Replaces (step n c.context new 0 none) (held weight k, l) new)
  replaces id weight k l c new c_in has free new_is s hs long mine small =
      let w : World = hs.world in
      let b : Board T = board_of n s in
      let y : ℕ = c.context in
      let r = replace tag_in bits w hs.phase b hs.shows id weight k mine y c (is-context tag_in bits shape s hs y c_in) has refl free in
      let k' : Known = with_context k (record c { shown = c.place }) in
      let d : ℕ → Phase = with_at hs.phase y (record (hs.phase y) { shown = c.place }) in (
        held weight (noted kind.Replace y (b.mark y) new k'),
        keeps,
        tt,
        mark-made tag_in bits shape s hs id weight k mine kind.Replace y new l keeps event.Still d k' b.home c_in refl tt (inr refl) refl (λ z _. refl)
            (subst (λ (q : ℕ). Shows tag_in bits w d (record b { mark = with_at b.mark y q; views = set s.views id (held weight k') })) (sym new_is) r),
        λ f f_at f_has. let one : c ≡ f = same-carried k c f has f_has (sym f_at) in
            (b.mark y, λ j. (held weight (noted kind.Replace y (b.mark y) new (with_context k (record (one j) { shown = (one j).place }))), l)),
      )

  pub replace-allowed : (slots id : ℕ) (me : Mine T) (c : Carried) (y new : ℕ) → slots ≡ contexts_in shape → IsLive me → y ≡ c.context → y < slots → Carries me.0.known c → c.held ≡ false → new ≡ mark_word bits (marked_free c)
      → Allows (Holds tag_in bits shape) slots id me y (λ _. new) (λ _. Replaces (step slots y new 0 none) me new)
  replace-allowed slots id me c y new laid live there y_in has free new_is =
      for-seat (λ a j e. Allows (Holds tag_in bits shape) a id e j (λ _. new) (λ _. Replaces (step a j new 0 none) e new)) slots y n c.context me laid there live
      (replaces id me.0.weight me.0.known me.1 c new (subst (λ (q : ℕ). q < n) there (subst (λ (a : ℕ). y < a) laid y_in)) has free new_is)

  -- ---- the place word of the place that was left

  names-source : (id weight : ℕ) (k : Known) (l : List (ℕ × Option T)) (c : Carried) → c.context < n → Carries k c → c.held ≡ false → c.shown ≡ c.place
      → Allows (Holds tag_in bits shape) n id (held weight k, l) (name_index n c.place) (λ _. c.context) (λ _. NamesSource (step n (name_index n c.place) c.context 0 none) (held weight k, l) c.context)
  names-source id weight k l c c_in has free settled s hs long mine small =
      let w : World = hs.world in
      let b : Board T = board_of n s in
      let y : ℕ = c.context in
      let i : ℕ = name_index n c.place in
      let y_is : IsContext w y = is-context tag_in bits shape s hs y c_in in
      let p_is : IsPlace w c.place = (placed-in tag_in bits w hs.phase b hs.shows id weight k mine c y_is has).0 in
      let r = name_source tag_in bits w hs.phase b hs.shows id weight k mine y c y_is has refl free settled in
      let k' : Known = with_context k (record c { named = true }) in
      let d : ℕ → Phase = with_at hs.phase y (record (hs.phase y) { named = true }) in (
        held weight (noted kind.NameSource i (b.name c.place) y k'),
        keeps,
        tt,
        name-made tag_in bits shape s hs id weight k mine kind.NameSource c.place y l keeps event.Still d k' b.home (in-place s hs c.place p_is) refl tt (inr refl) refl (λ z _. refl) r,
        λ f f_at f_has. let one : c ≡ f = same-carried k c f has f_has (sym f_at) in
            (b.name c.place, λ j. (held weight (noted kind.NameSource i (b.name c.place) y (with_context k (record (one j) { named = true }))), l)),
      )

  pub name-source-allowed : (slots id : ℕ) (me : Mine T) (c : Carried) (y i : ℕ) → slots ≡ contexts_in shape → IsLive me → y ≡ c.context → y < slots → i ≡ name_index slots c.place → Carries me.0.known c → c.held ≡ false → c.shown ≡ c.place
      → Allows (Holds tag_in bits shape) slots id me i (λ _. y) (λ _. NamesSource (step slots i y 0 none) me y)
  name-source-allowed slots id me c y i laid live same y_in there has free settled =
      subst (λ (z : ℕ). Allows (Holds tag_in bits shape) slots id me i (λ _. z) (λ _. NamesSource (step slots i z 0 none) me z)) (sym same)
      (for-seat (λ a j e. Allows (Holds tag_in bits shape) a id e j (λ _. c.context) (λ _. NamesSource (step a j c.context 0 none) e c.context)) slots i n (name_index n c.place) me laid (there ∙ ap (λ (a : ℕ). name_index a c.place) laid) live
      (names-source id me.0.weight me.0.known me.1 c (subst (λ (q : ℕ). q < n) same (subst (λ (a : ℕ). y < a) laid y_in)) has free settled))
