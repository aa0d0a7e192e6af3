-- `of_handle` holds what the handle did: its pointer is the same.
use Rattle.arachne_handle.proofs.Steps.{◌≡◌, List, [], ◌∷◌, ◌++◌, refl, sym, subst, Val, SProp, ent, emp, id⊢, WpFn, ‵, raw, ◌⊛◌, ◌$◌, ◌∵◌, !, qed, by, move, keep, split, fsplit, fjoin, use0, suffices, stop, fld, of_opd, no_more, and_then, returns, enter, alloc_all, pass_all, free_all, look_at, get, get_in, sets, agg, sub, whole, fact, fact_i, tables, yes, owns, types_at, plain, ptr_val, nothing, alive, Stays, stay_dropped, walk_of, Goes-dropped, Ptr-Good, proved_at, leaves, both, Handle, pair_good, fields_out, fields_in}
use Rattle.arachne_grants_c.specs.ArbiterRow.{row}
use Rattle.arachne_grants_c.specs.contracts.arbiter_handle.ArachneArbiter.{the_row}
use Rattle.arachne_grants_c.specs.contracts.arbiter_handle.ArachneArbiter.of_handle.{ended, clauses}
use Rattle.arachne_grants_c.specs.contracts.arbiter_handle.ArachneArbiter.of_handle.Key.{name as #self}
use Rattle.arachne_grants_c.proofs.arbiter_handle.ArachneArbiter.of_handle.Statement.{statement}
use Rattle.arachne_grants_c.proofs.arbiter_handle.ArachneArbiter.of_handle.Code as code

pub of_handle_spec : {M : Type 1} → statement M
of_handle_spec 𝓤 𝓛 𝓜 𝓡 wired =
    let H = 𝓛.H in let 𝓣 = tables 𝓤 H 𝓜 𝓡 𝓡.env in let c = clauses 𝓛 𝓜.mem 𝓡.returns in let fn = code.function in
    let hs : Stays ended.signature.params ended.kept = (stay_dropped (plain (λ _. Handle row)) yes, tt) in
    proved_at 𝓛 ended hs c 𝓜 𝓡 (Goes-dropped 𝓛 0 (plain (λ _. Handle row)) yes (λ κs x f. refl), tt) #self fn (code.unfolded 𝓤 H 𝓜 𝓡 wired) (λ z are.
    let κs = z.0.0 in let qs = z.0.1 in let from = z.0.3.0 in let d : the_row.Denot = record { at = from.at; alloc = from.alloc; value = from.value } in
    let Post : Val → SProp 𝓤 = (walk_of 𝓛 ended hs c).post z in let Run : List Val → SProp 𝓤 = λ ws. WpFn 𝓤 H 𝓣.C 𝓣.Λ fn ws Post in
    qed 𝓛 ((raw (alive 𝓛 ended.signature κs qs) ⊛ ‵ (owns (types_at ended.signature.params κs) z.0.3 z.0.4)) ∷ raw ((c κs z.0.3).requires z.1) ∷ []) ∵ split ! $ move ! (1 ∷ []) $ fsplit ! $ fsplit ! $
    fields_out from.at from.alloc ! z.0.4.0 (λ h ws gh. let w : Val = both (ptr_val from.at) h in
    suffices ! (Run (w ∷ [])) (subst (λ (us : List Val). ent 𝓤 (Run (w ∷ [])) (Run us)) (sym (λ i. ws i ++ [])) (id⊢ 𝓤 (Run (w ∷ [])))) $
    enter ! 𝓣.C 𝓣.Λ fn (w ∷ []) Post $ alloc_all ! (λ l. pass_all ! refl (pair_good from.at h gh, tt) $
    sets ! (of_opd ! (get_in ! (fld ! refl (stop !)) (sub ! 0 refl (whole !)))) refl (Ptr-Good from.at) $ sets ! (of_opd ! (get_in ! (fld ! refl (stop !)) (sub ! 1 refl (whole !)))) refl gh $
    sets ! (of_opd ! (get ! refl)) refl (Ptr-Good from.at) $ sets ! (agg ! (and_then ! (get ! refl) (and_then ! (get ! refl) (no_more !)))) refl (pair_good from.at h gh) $
    -- [the allocator; what the pointer keeps; nothing; the tokens; no `requires`; the locals]
    fields_in from.at from.alloc ! h $ fjoin ! $
    use0 𝓛 (raw (fact 𝓤 (from.value ≡ from.value))) (fact_i 𝓤 (from.value ≡ from.value) (emp 𝓤) refl) $ nothing ! $ nothing ! $ fjoin ! $
    returns ! (look_at ! 0 refl) $ free_all ! refl $ keep ! (4 ∷ 0 ∷ 2 ∷ 1 ∷ []) $ by ! (leaves 𝓛 ended hs c z w d (tt, tt) (tt, tt)))))
