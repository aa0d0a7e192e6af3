-- The effect of each event on the World that a table stands for.
use Rattle.std.proofs.Common.{◌≡◌, ℕ, ◌+◌, ◌<◌, Bool, true, cond, ltb, List, [], ◌∷◌, ◌++◌, length, Result, Ok, Err, refl, sym, ap, ◌∙◌, subst}
use Rattle.arachne_core.{proofs.KeepsOwnedOnce.keeps_owned_once, specs.declared.{event.Event.Event, state.State.State}}
use Rattle.arachne_core.proofs.TableWorlds.{context_world, state_world, occupied_world, exclusive_world, swapped_world, given_world, ended_world}
use Rattle.arachne_core.specs.{ContextTable.{ContextTable, context, world_of, Answers}, OwnedOnce.OwnedOnce}
use Rattle.arachne_core.specs.TableChanges.{with_context, with_occupied, with_exclusive, with_swapped, HasPlace}
use Rattle.arachne_core.specs.World.{World, Thread, with_at, with_place, with_thread, tag_of, Allowed, after}
use Rattle.arachne_core.specs.declared.event.NotApplied.{NotApplied, TheVariants.{NotAllowed, Memory}}
use Rattle.arachne_core.specs.declared.{layout.TheConstants.LAST_GENERATION, place.Place.Place, state.Context.Context}
use Rattle.arachne_core.specs.declared.state.State.TheVariants.{Claimed, Ready, Spent}
use Rattle.arachne_core.specs.declared.event.Event.TheVariants as event

-- Context x gets a state, after a change that kept the contexts and made the World w.
pub finish : (k mid new : ContextTable) (x : ℕ) (found : Context) (s : State) (w : World) → x < length k.contexts → found ≡ context k x
    → mid.contexts ≡ k.contexts → world_of mid ≡ w → new ≡ with_context mid x (record found { state = s }) → world_of new ≡ record w { state = with_at w.state x s }
finish k mid new x found s w x_in f same made e =
    let there : found ≡ context mid x = f ∙ ap (λ (cs : List Context). context (record k { contexts = cs }) x) (sym same) in
    ap world_of e
    ∙ state_world mid x (record found { state = s }) (subst (λ (cs : List Context). x < length cs) (sym same) x_in) (ap (λ (c : Context). c.place) there) (ap (λ (c : Context). c.generation) there)
    ∙ ap (λ (v : World). record v { state = with_at v.state x s }) made

pub state_makes : (k new : ContextTable) (x : ℕ) (found : Context) (s r : State) → x < length k.contexts → found ≡ context k x → s ≡ r
    → new ≡ with_context k x (record found { state = s }) → world_of new ≡ record (world_of k) { state = with_at (world_of k).state x r }
state_makes k new x found s r x_in f t e =
    finish k k new x found s (world_of k) x_in f refl refl e ∙ ap (λ (z : State). record (world_of k) { state = with_at (world_of k).state x z }) t

pub claim_makes : (k mid new : ContextTable) (h x : ℕ) (found : Context) → x < length k.contexts → found ≡ context k x → HasPlace k found.place
    → mid ≡ with_occupied k found.place true → new ≡ with_context mid x (record found { state = Claimed h }) → world_of new ≡ after (world_of k) (event.Claim h x)
claim_makes k mid new h x found x_in f p e d =
    let w : World = world_of k in
    finish k mid new x found (Claimed h) (record w { occupied = with_place w.occupied found.place true }) x_in f (ap (λ (t : ContextTable). t.contexts) e)
    (ap world_of e ∙ occupied_world k found.place true p) d
    ∙ ap (λ (c : Context). record w { state = with_at w.state x (Claimed h); occupied = with_place w.occupied c.place true }) f

pub alone_makes : (k one two new : ContextTable) (h x : ℕ) (found : Context) (s : State) (b : Bool) → x < length k.contexts → found ≡ context k x → HasPlace k found.place
    → one ≡ with_occupied k found.place b → two ≡ with_exclusive one found.place.core b → new ≡ with_context two x (record found { state = s })
    → world_of new ≡ record (world_of k) { state = with_at (world_of k).state x s; occupied = with_place (world_of k).occupied ((world_of k).at x) b; alone = with_at (world_of k).alone ((world_of k).at x).core b }
alone_makes k one two new h x found s b x_in f p e d g =
    let w : World = world_of k in
    let p' : Place = found.place in
    let v : World = record w { occupied = with_place w.occupied p' b } in
    let made_one : world_of one ≡ v = ap world_of e ∙ occupied_world k p' b p in
    let core_in : p'.core < length one.cores = subst (λ (n : ℕ). p'.core < n) (sym (ap (λ (u : World). u.cores) made_one)) p.0 in
    let made_two : world_of two ≡ record v { alone = with_at v.alone p'.core b } =
    ap world_of d ∙ exclusive_world one p'.core b core_in ∙ ap (λ (u : World). record u { alone = with_at u.alone p'.core b }) made_one in
    finish k two new x found s (record v { alone = with_at v.alone p'.core b }) x_in f (ap (λ (t : ContextTable). t.contexts) d ∙ ap (λ (t : ContextTable). t.contexts) e) made_two g
    ∙ ap (λ (c : Context). record w { state = with_at w.state x s; occupied = with_place w.occupied c.place b; alone = with_at w.alone c.place.core b }) f

pub post_makes : (k mid new : ContextTable) (h x tag : ℕ) (found : Context) → x < length k.contexts → found ≡ context k x
    → mid ≡ record k { given = k.given ++ (record { context = x; generation = found.generation }, tag) ∷ []; posts = mid.posts }
    → new ≡ with_context mid x (record found { state = Ready tag }) → world_of new ≡ after (world_of k) (event.Post h x tag)
post_makes k mid new h x tag found x_in f e d =
    let w : World = world_of k in
    let t : Thread = (record { context = x; generation = found.generation }, tag) in
    finish k mid new x found (Ready tag) (record w { given = with_thread w.given t }) x_in f (ap (λ (u : ContextTable). u.contexts) e)
    (ap world_of e ∙ given_world k t mid.posts) d
    ∙ ap (λ (c : Context). record w { state = with_at w.state x (Ready tag); given = with_thread w.given (record { context = x; generation = c.generation }, tag) }) f

pub retire_makes : (k mid new : ContextTable) (h x tag : ℕ) (found next : Context) → x < length k.contexts → found ≡ context k x → tag ≡ tag_of found.state
    → mid ≡ record k { ended = k.ended ++ (record { context = x; generation = found.generation }, tag) ∷ []; retires = mid.retires }
    → next.place ≡ found.place
    → next.state ≡ cond (ltb found.generation LAST_GENERATION) (Claimed h) Spent
    → next.generation ≡ cond (ltb found.generation LAST_GENERATION) (found.generation + 1) found.generation
    → new ≡ with_context mid x next → world_of new ≡ after (world_of k) (event.Retire h x)
retire_makes k mid new h x tag found next x_in f g e p s n d =
    let w : World = world_of k in
    let t : Thread = (record { context = x; generation = found.generation }, tag) in
    let same : mid.contexts ≡ k.contexts = ap (λ (u : ContextTable). u.contexts) e in
    let there : found ≡ context mid x = f ∙ ap (λ (cs : List Context). context (record k { contexts = cs }) x) (sym same) in
    let v : World = record w { ended = with_thread w.ended t } in
    ap world_of d
    ∙ context_world mid x next (subst (λ (cs : List Context). x < length cs) (sym same) x_in) (p ∙ ap (λ (c : Context). c.place) there)
    ∙ ap (λ (u : World). record u { state = with_at u.state x next.state; generation = with_at u.generation x next.generation }) (ap world_of e ∙ ended_world k t mid.retires)
    ∙ (λ i. record v { state = with_at v.state x (s i); generation = with_at v.generation x (n i); ended = with_thread w.ended (record { context = x; generation = found.generation }, g i) })
    ∙ ap (λ (c : Context). record w {
      state = with_at w.state x (cond (ltb c.generation LAST_GENERATION) (Claimed h) Spent);
      generation = with_at w.generation x (cond (ltb c.generation LAST_GENERATION) (c.generation + 1) c.generation);
      ended = with_thread w.ended (record { context = x; generation = c.generation }, tag_of c.state);
    }) f

pub move_makes : (k new : ContextTable) (h x y : ℕ) → x < length k.contexts → y < length k.contexts → Allowed (world_of k) (event.Move h x y)
    → new ≡ with_swapped k x y → world_of new ≡ after (world_of k) (event.Move h x y)
move_makes k new h x y x_in y_in a e = ap world_of e ∙ swapped_world k x y x_in y_in (λ q. a.apart (ap (λ (z : ℕ). (context k z).place.core) q))

-- an answer leaves the World owned once
pub answers_owned_once : (e : Event) (old new : ContextTable) (r : Result (Unit {0}) NotApplied) → OwnedOnce (world_of old) → Answers e old new r → OwnedOnce (world_of new)
answers_owned_once e old new (Ok u) o a = subst OwnedOnce (sym a.1) (keeps_owned_once (world_of old) e o a.0)
answers_owned_once e old new (Err NotAllowed) o a = subst (λ (k : ContextTable). OwnedOnce (world_of k)) (sym a.1) o
answers_owned_once e old new (Err Memory) o a = subst (λ (k : ContextTable). OwnedOnce (world_of k)) (sym a.2) o

-- an event leaves the number of cores
after_cores : (w : World) (e : Event) → (after w e).cores ≡ w.cores
after_cores w (event.Claim h x) = refl
after_cores w _ = refl

pub answers_cores : (e : Event) (old new : ContextTable) (r : Result (Unit {0}) NotApplied) → Answers e old new r → (world_of new).cores ≡ (world_of old).cores
answers_cores e old new (Ok u) a = ap (λ (w : World). w.cores) a.1 ∙ after_cores (world_of old) e
answers_cores e old new (Err NotAllowed) a = ap (λ (k : ContextTable). (world_of k).cores) a.1
answers_cores e old new (Err Memory) a = ap (λ (k : ContextTable). (world_of k).cores) a.2

-- an event leaves the number of places
after_slots : (w : World) (e : Event) → (after w e).slots ≡ w.slots
after_slots w (event.Claim h x) = refl
after_slots w _ = refl

pub answers_slots : (e : Event) (old new : ContextTable) (r : Result (Unit {0}) NotApplied) → Answers e old new r → (world_of new).slots ≡ (world_of old).slots
answers_slots e old new (Ok u) a = ap (λ (w : World). w.slots) a.1 ∙ after_slots (world_of old) e
answers_slots e old new (Err NotAllowed) a = ap (λ (k : ContextTable). (world_of k).slots) a.1
answers_slots e old new (Err Memory) a = ap (λ (k : ContextTable). (world_of k).slots) a.2
