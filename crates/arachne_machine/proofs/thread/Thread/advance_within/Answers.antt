use Rattle.std.proofs.Common.{◌≡◌, ap, sym, ◌∙◌, subst}
use Rattle.arachne_machine.specs.{Advance.{PlacesNone, pause_seen}, Nested.{IsAlone, pending_in}, Tallying.IsAdvance}
use Rattle.arachne_machine.proofs.thread.Thread.advance_within.Goals as goal

pub returns-clause-ok : goal.returns-clause-ok
returns-clause-ok g c =
    let forked = c.in_ok-forked.forked in
    let new = c.stop.new.self in
    let is : c.pause_of.result ≡ pause_seen forked (pending_in new) = c.pause_of.ensures ∙ ap (pause_seen forked) c.pending.ensures.pending in
    let a = subst (λ p. IsAdvance c.args.left.now c.stop.new.left c.args.self.now p new) (sym is) c.in_ok-forked.ensures.advance in
    a.moves

pub returns-clause-spent : goal.returns-clause-spent
returns-clause-spent g c =
    let forked = c.in_ok-forked.forked in
    let new = c.stop.new.self in
    let is : c.pause_of.result ≡ pause_seen forked (pending_in new) = c.pause_of.ensures ∙ ap (pause_seen forked) c.pending.ensures.pending in
    let a = subst (λ p. IsAdvance c.args.left.now c.stop.new.left c.args.self.now p new) (sym is) c.in_ok-forked.ensures.advance in
    a.spent

pub returns-clause-charged : goal.returns-clause-charged
returns-clause-charged g c =
    let forked = c.in_ok-forked.forked in
    let new = c.stop.new.self in
    let is : c.pause_of.result ≡ pause_seen forked (pending_in new) = c.pause_of.ensures ∙ ap (pause_seen forked) c.pending.ensures.pending in
    let a = subst (λ p. IsAdvance c.args.left.now c.stop.new.left c.args.self.now p new) (sym is) c.in_ok-forked.ensures.advance in
    a.charged

pub returns-clause-elsewhere : goal.returns-clause-elsewhere
returns-clause-elsewhere g c =
    let forked = c.in_ok-forked.forked in
    let new = c.stop.new.self in
    let is : c.pause_of.result ≡ pause_seen forked (pending_in new) = c.pause_of.ensures ∙ ap (pause_seen forked) c.pending.ensures.pending in
    let a = subst (λ p. IsAdvance c.args.left.now c.stop.new.left c.args.self.now p new) (sym is) c.in_ok-forked.ensures.advance in
    a.elsewhere

pub returns-clause-within : goal.returns-clause-within
returns-clause-within g c =
    let forked = c.in_ok-forked.forked in
    let new = c.stop.new.self in
    let is : c.pause_of.result ≡ pause_seen forked (pending_in new) = c.pause_of.ensures ∙ ap (pause_seen forked) c.pending.ensures.pending in
    let a = subst (λ p. IsAdvance c.args.left.now c.stop.new.left c.args.self.now p new) (sym is) c.in_ok-forked.ensures.advance in
    a.within

pub returns-clause-alone : goal.returns-clause-alone
returns-clause-alone g c =
    let forked = c.in_ok-forked.forked in
    let new = c.stop.new.self in
    let is : c.pause_of.result ≡ pause_seen forked (pending_in new) = c.pause_of.ensures ∙ ap (pause_seen forked) c.pending.ensures.pending in
    let a = subst (λ p. IsAdvance c.args.left.now c.stop.new.left c.args.self.now p new) (sym is) c.in_ok-forked.ensures.advance in
    a.alone

pub returns-clause-rest : goal.returns-clause-rest
returns-clause-rest g c =
    let forked = c.in_ok-forked.forked in
    let new = c.stop.new.self in
    let is : c.pause_of.result ≡ pause_seen forked (pending_in new) = c.pause_of.ensures ∙ ap (pause_seen forked) c.pending.ensures.pending in
    let a = subst (λ p. IsAdvance c.args.left.now c.stop.new.left c.args.self.now p new) (sym is) c.in_ok-forked.ensures.advance in
    a.rest

pub returns-clause-sums : goal.returns-clause-sums
returns-clause-sums g c =
    let forked = c.in_ok-forked.forked in
    let new = c.stop.new.self in
    let is : c.pause_of.result ≡ pause_seen forked (pending_in new) = c.pause_of.ensures ∙ ap (pause_seen forked) c.pending.ensures.pending in
    let a = subst (λ p. IsAdvance c.args.left.now c.stop.new.left c.args.self.now p new) (sym is) c.in_ok-forked.ensures.advance in
    a.sums

pub returns-clause-everywhere : goal.returns-clause-everywhere
returns-clause-everywhere g c =
    let forked = c.in_ok-forked.forked in
    let new = c.stop.new.self in
    let is : c.pause_of.result ≡ pause_seen forked (pending_in new) = c.pause_of.ensures ∙ ap (pause_seen forked) c.pending.ensures.pending in
    λ all. subst (λ p. IsAlone c.args.self.now → PlacesNone c.args.self.now p new) (sym is) (c.in_ok-forked.ensures.everywhere all)
