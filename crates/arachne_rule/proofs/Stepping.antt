-- The table after one step, if the rule holds before it: from the World after the step, and its words, to the rule.
use Rattle.std.proofs.Common.{◌≡◌, ℕ, ◌<◌, ◌≤◌, List, ◌∷◌, length, length-set, refl, sym, ◌∙◌, subst, set, get_or, Option}
use Rattle.std.proofs.lemmas.List.{set-get_or, set-set}
use mathlib.Core.Option as opt
use mathlib.Core.Option.{some}
use lib.ListN.{get_elem?}
use Rattle.atomic_table.{specs.Table.{Act, keeps, stepped, homes_after}, proofs.Lists.set_here}
use Rattle.arachne_core.specs.declared.{layout.TheConstants.SLOTS, place.Place.Place, event.Event.Event}
use Rattle.arachne_core.specs.World.{World, Allowed, after, with_at}
use Rattle.arachne_core.specs.declared.event.Event.TheVariants as event
use Rattle.arachne_weights.specs.{declared.token.Token.Token, Tokens.held}
use Rattle.arachne_rule.proofs.Boards.{IsIn, same_board, core-steps, mark-steps, name-steps}
use Rattle.arachne_rule.proofs.{Histories.{same_size, there-in, entry, tells-more}, Noted.noted_board}
use Rattle.arachne_rule.specs.{Changes.with_name, History.Makes, Layout.{contexts_in, occ_index, name_index, board_of}}
use Rattle.arachne_rule.specs.{Plays.IsLive, Rule.{Board, Phase, Shows}, Table.{Table, Mine, Holds}, Views.noted}
use Rattle.arachne_rule.specs.declared.view.{Kind.Kind, Known.Known, Shape.Shape}

module _ {T : Type 0} (tag_in : T → ℕ) (bits : ℕ) (shape : Shape) (s : Table T) (hs : Holds tag_in bits shape s)
    (id weight : ℕ) (k : Known) (mine : get_elem? s.views id ≡ some (held weight k)) where
  abbrev w : World
  w = hs.world

  abbrev n : ℕ
  n = contexts_in shape

  abbrev b : Board T
  b = board_of n s

  -- a board that shows the World with this knowledge of a seat shows it with one more step in the seat's records
  writes : (v : World) (d : ℕ → Phase) (a : Board T) (k' k'' : Known) → k''.carried ≡ k'.carried → k''.given ≡ k'.given → k''.ended ≡ k'.ended
      → Shows tag_in bits v d (record a { views = set s.views id (held weight k') })
      → Shows tag_in bits v d (record a { views = set s.views id (held weight k'') })
  writes v d a k' k'' same given ended shows =
      subst (λ (vs : List (Token Known)). Shows tag_in bits v d (record a { views = vs })) (set-set s.views id (held weight k') (held weight k''))
      (noted_board tag_in bits v d (record a { views = set s.views id (held weight k') }) shows id weight k' (set_here s.views id (held weight k') (there-in s.views id (held weight k) mine)) k'' same given ended)

  -- one step of any kind
  unfoldable pub makes-step : (kind : Kind) (i new : ℕ) (l : List (ℕ × Option T)) (act : Act (Option T)) (e : Event) (d : ℕ → Phase) (k' : Known) → k'.records ≡ k.records
      → Allowed w e → Makes bits w (entry id kind i (get_or s.words i 0) new e)
      → length (homes_after s.homes l act) ≡ length s.homes
      → Shows tag_in bits (after w e) d (board_of n (stepped s i new id l (held weight (noted kind i (get_or s.words i 0) new k')) act))
      → Holds tag_in bits shape (stepped s i new id l (held weight (noted kind i (get_or s.words i 0) new k')) act)
  makes-step kind i new l act e d k' kept allowed makes homes shows =
      let z = same_size w e in record {
        world = after w e;
        phase = d;
        first = hs.first;
        history = entry id kind i (get_or s.words i 0) new e ∷ hs.history;
        fits = record { cores = z.0 ∙ hs.fits.cores; slots = z.1 ∙ hs.fits.slots; last = z.2 ∙ hs.fits.last; words = length-set s.words i new ∙ hs.fits.words; homes = homes ∙ hs.fits.homes };
        shows = shows;
        tells = tells-more bits shape w hs.first hs.history s hs.tells id weight k mine kind i new e k' (stepped s i new id l (held weight (noted kind i (get_or s.words i 0) new k')) act)
            kept allowed makes refl refl;
      }

  -- nothing changes but that the seat has seen the word
  pub sees : (kind : Kind) (i : ℕ) (l : List (ℕ × Option T)) → Makes bits w (entry id kind i (get_or s.words i 0) (get_or s.words i 0) event.Still)
      → Holds tag_in bits shape (stepped s i (get_or s.words i 0) id l (held weight (noted kind i (get_or s.words i 0) (get_or s.words i 0) k)) keeps)
  sees kind i l makes =
      let found : ℕ = get_or s.words i 0 in
      let k' : Known = noted kind i found found k in
      makes-step kind i found l keeps event.Still hs.phase k refl tt makes refl
      (subst (λ (ws : List ℕ). Shows tag_in bits w hs.phase (board_of n (record { words = ws; homes = s.homes; views = set s.views id (held weight k') }))) (sym (set-get_or s.words i 0))
      (noted_board tag_in bits w hs.phase b hs.shows id weight k mine k' refl refl refl))

  -- an occupancy word changes
  pub core-made : (kind : Kind) (c new : ℕ) (l : List (ℕ × Option T)) (e : Event) (d : ℕ → Phase) (k' : Known) → c < shape.cores → k'.records ≡ k.records
      → Allowed w e → Makes bits w (entry id kind (occ_index n c) (b.occ c) new e)
      → Shows tag_in bits (after w e) d (record b { occ = with_at b.occ c new; views = set s.views id (held weight k') })
      → Holds tag_in bits shape (stepped s (occ_index n c) new id l (held weight (noted kind (occ_index n c) (b.occ c) new k')) keeps)
  core-made kind c new l e d k' c_in kept allowed makes shows =
      let k'' : Known = noted kind (occ_index n c) (b.occ c) new k' in
      let z = same_size w e in
      makes-step kind (occ_index n c) new l keeps e d k' kept allowed makes refl
      (same_board tag_in bits shape (after w e) d (record b { occ = with_at b.occ c new; views = set s.views id (held weight k'') }) (board_of n (stepped s (occ_index n c) new id l (held weight k'') keeps))
      (z.0 ∙ hs.fits.cores) (z.1 ∙ hs.fits.slots)
      (writes (after w e) d (record b { occ = with_at b.occ c new }) k' k'' refl refl refl shows)
      (core-steps shape s c new id l (held weight k'') hs.fits.words c_in (subst (λ (m : ℕ). m ≤ SLOTS) hs.fits.slots hs.shows.fits.1)))

  -- a mark word and slots change
  pub mark-made : (kind : Kind) (x new : ℕ) (l : List (ℕ × Option T)) (act : Act (Option T)) (e : Event) (d : ℕ → Phase) (k' : Known) (home : ℕ → opt.Option (opt.Option (Option T)))
      → x < n → k'.records ≡ k.records
      → Allowed w e → Makes bits w (entry id kind x (b.mark x) new e)
      → length (homes_after s.homes l act) ≡ length s.homes → ((y : ℕ) → y < n → get_elem? (homes_after s.homes l act) y ≡ home y)
      → Shows tag_in bits (after w e) d (record b { mark = with_at b.mark x new; home = home; views = set s.views id (held weight k') })
      → Holds tag_in bits shape (stepped s x new id l (held weight (noted kind x (b.mark x) new k')) act)
  mark-made kind x new l act e d k' home x_in kept allowed makes long homes shows =
      let k'' : Known = noted kind x (b.mark x) new k' in
      let z = same_size w e in
      makes-step kind x new l act e d k' kept allowed makes long
      (same_board tag_in bits shape (after w e) d (record b { mark = with_at b.mark x new; home = home; views = set s.views id (held weight k'') }) (board_of n (stepped s x new id l (held weight k'') act))
      (z.0 ∙ hs.fits.cores) (z.1 ∙ hs.fits.slots)
      (writes (after w e) d (record b { mark = with_at b.mark x new; home = home }) k' k'' refl refl refl shows)
      (mark-steps shape s x new id l (held weight k'') act home hs.fits.words x_in homes))

  -- a place word and slots change
  pub name-made : (kind : Kind) (p : Place) (new : ℕ) (l : List (ℕ × Option T)) (act : Act (Option T)) (e : Event) (d : ℕ → Phase) (k' : Known) (home : ℕ → opt.Option (opt.Option (Option T)))
      → IsIn shape p → k'.records ≡ k.records
      → Allowed w e → Makes bits w (entry id kind (name_index n p) (b.name p) new e)
      → length (homes_after s.homes l act) ≡ length s.homes → ((y : ℕ) → y < n → get_elem? (homes_after s.homes l act) y ≡ home y)
      → Shows tag_in bits (after w e) d (record b { name = with_name b.name p new; home = home; views = set s.views id (held weight k') })
      → Holds tag_in bits shape (stepped s (name_index n p) new id l (held weight (noted kind (name_index n p) (b.name p) new k')) act)
  name-made kind p new l act e d k' home p_in kept allowed makes long homes shows =
      let k'' : Known = noted kind (name_index n p) (b.name p) new k' in
      let z = same_size w e in
      makes-step kind (name_index n p) new l act e d k' kept allowed makes long
      (same_board tag_in bits shape (after w e) d (record b { name = with_name b.name p new; home = home; views = set s.views id (held weight k'') }) (board_of n (stepped s (name_index n p) new id l (held weight k'') act))
      (z.0 ∙ hs.fits.cores) (z.1 ∙ hs.fits.slots)
      (writes (after w e) d (record b { name = with_name b.name p new; home = home }) k' k'' refl refl refl shows)
      (name-steps shape s p new id l (held weight k'') act home hs.fits.words p_in (subst (λ (m : ℕ). m ≤ SLOTS) hs.fits.slots hs.shows.fits.1) homes))

-- a proposition about a seat in use, if the number of slots and the word's index are the table's own
pub for-seat : {T : Type 0} (P : ℕ → ℕ → Mine T → Type 0) (slots i m j : ℕ) (me : Mine T) → slots ≡ m → i ≡ j → IsLive me → P m j (held me.0.weight me.0.known, me.1) → P slots i me
for-seat P slots i m j me e f live p = subst (λ (x : ℕ). P x i me) (sym e) (subst (λ (y : ℕ). P m y me) (sym f) (subst (λ (v : Token Known). P m j (v, me.1)) (sym live) p))
