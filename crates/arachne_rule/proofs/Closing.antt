-- A core is closed, or opened; and one that is drained.
use Rattle.std.proofs.Common.{◌≡◌, ℕ, ◌-◌, ◌<◌, ◌^◌, Bool, true, false, sym, ap, ◌∙◌, subst, inl, inr, get_or, bit_or, bit_and}
use Rattle.std.proofs.lemmas.Bool.{cases_eq}
use Rattle.arachne_core.specs.declared.event.Event.TheVariants as event
use Rattle.arachne_core.specs.{ContextTable.IsVacantFrom, Occupancy.{Occupancy, occupancy_of, IsOccupancyWord}}
use Rattle.arachne_core.specs.{World.{World, with_at, Allowed, after}, OwnedOnce.OwnedOnce, Run.IsDrained}
use Rattle.arachne_core.proofs.{Changes.{with_at-same, with_at-other}, KeepsOwnedOnce.keeps_owned_once}
use Rattle.arachne_core.proofs.OccupancyWords.{closing, opening}
use Rattle.arachne_rule.specs.Rule.{is_closed, HasNoOccupied, Board, Phase, ShowsWord, Shows}

module _ {T : Type 0} (tag_in : T → ℕ) (bits : ℕ) (w : World) (d : ℕ → Phase) (b : Board T) (s : Shows tag_in bits w d b) where
  flagged : (c n : ℕ) (q : Bool) → c < w.cores → OwnedOnce (record w { closed = with_at w.closed c q }) → IsOccupancyWord n → occupancy_of n ≡ record (occupancy_of (b.occ c)) { closed = q }
      → Shows tag_in bits (record w { closed = with_at w.closed c q }) d (record b { occ = with_at b.occ c n })
  flagged c n q c_in owned packed reads =
      let v : World = record w { closed = with_at w.closed c q } in
      let o = s.cores c c_in in
      let here : ShowsWord v c n = record {
        packed = packed;
        shows = record {
          occupied = λ i. ap (λ (r : Occupancy). get_or r.occupied i false) reads ∙ o.shows.occupied i;
          closed = ap (λ (r : Occupancy). r.closed) reads ∙ sym (with_at-same w.closed c q);
          exclusive = ap (λ (r : Occupancy). r.exclusive) reads ∙ o.shows.exclusive;
        };
      } in
      record {
        owned = owned;
        fits = s.fits;
        beyond = s.beyond;
        cores = λ j j_in. elim (cases_eq j c) [
          | inl e ↦ subst (λ (i : ℕ). ShowsWord v i (with_at b.occ c n i)) (sym e) (subst (ShowsWord v c) (sym (with_at-same b.occ c n)) here)
          | inr m ↦ let p = s.cores j j_in in subst (ShowsWord v j) (sym (with_at-other b.occ c n j m)) (record {
            packed = p.packed;
            shows = record {
              occupied = p.shows.occupied;
              closed = p.shows.closed ∙ sym (with_at-other w.closed c q j m);
              exclusive = p.shows.exclusive;
            };
          })
        ];
        contexts = λ x x_in. let p = s.contexts x x_in in record { within = p.within; coherent = p.coherent; mark = p.mark; named = p.named; value = p.value };
        names = s.names;
        carried = s.carried;
        seats = s.seats;
        given = s.given;
        ended = s.ended;
      }

  pub close_core : (c : ℕ) → c < w.cores → Allowed w (event.CloseCore c) × Shows tag_in bits (after w (event.CloseCore c)) d (record b { occ = with_at b.occ c (bit_or (b.occ c) (2 ^ 62)) })
  close_core c c_in = let r = closing (b.occ c) (s.cores c c_in).packed in
      (c_in, flagged c (bit_or (b.occ c) (2 ^ 62)) true c_in (keeps_owned_once w (event.CloseCore c) s.owned c_in) r.0 r.1)

  pub open_core : (c : ℕ) → c < w.cores → Allowed w (event.OpenCore c) × Shows tag_in bits (after w (event.OpenCore c)) d (record b { occ = with_at b.occ c (bit_and (b.occ c) (2 ^ 64 - 1 - 2 ^ 62)) })
  open_core c c_in = let r = opening (b.occ c) (s.cores c c_in).packed in
      (c_in, flagged c (bit_and (b.occ c) (2 ^ 64 - 1 - 2 ^ 62)) false c_in (keeps_owned_once w (event.OpenCore c) s.owned c_in) r.0 r.1)

  pub past-the-places : (c : ℕ) → c < w.cores → IsVacantFrom w.slots (occupancy_of (b.occ c))
  past-the-places c c_in i past = (s.cores c c_in).shows.occupied i ∙ s.beyond (record { core = c; index = i }) past

  pub drained : (c : ℕ) → c < w.cores → is_closed (b.occ c) ≡ true → HasNoOccupied w.slots (b.occ c) → IsDrained w c
  drained c c_in closed empty = let o = (s.cores c c_in).shows in (c_in, sym o.closed ∙ closed, λ i i_in. sym (o.occupied i) ∙ empty i i_in)
