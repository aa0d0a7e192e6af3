use Rattle.std.proofs.Common.{rules, ◌∙◌, sym}
use Rattle.arachne_join.proofs.BlockLaws.{fetches_there, come, missed, fits_for, holds_slot, slot_laid, slot_held, same_value}
use Rattle.arachne_join.proofs.block.CellBlock.fetch.Goals as goal

pub load-requires : goal.load-requires
load-requires g c = (search rules, search rules, fetches_there g.T.Fits.fits _ _ _ _ _ _ _ c.requires.receiving.1)

pub returns-then-load-full-clause-missed : goal.returns-then-load-full-clause-missed
returns-then-load-full-clause-missed g c = missed g.T.Fits.fits _ _ _ _ _ _ _ _ c.requires.receiving.1 c.load.ensures.2 c.requires.word c.if-load-full.true

pub exchange-requires : goal.exchange-requires
exchange-requires g c = let got = come g.T.Fits.fits _ _ _ _ _ _ _ _ c.requires.receiving.1 c.load.ensures.2 c.requires.word c.if-load-full.false in
    (search rules, holds_slot _ _ _ got.1)

pub unreachable-requires : goal.unreachable-requires
unreachable-requires g c = let got = come g.T.Fits.fits _ _ _ _ _ _ _ _ c.requires.receiving.1 c.load.ensures.2 c.requires.word c.if-load-full.false in
    c.in_default.not-Value got.0 (slot_held _ _ _ _ got.1 c.exchange.ensures.2)

pub returns-clause-value : goal.returns-clause-value
returns-clause-value g c = let got = come g.T.Fits.fits _ _ _ _ _ _ _ _ c.requires.receiving.1 c.load.ensures.2 c.requires.word c.if-load-full.false in
    λ key for. fits_for g.T.Fits.fits _ _ _ _ key got.0 _ _ c.requires.receiving.1 got.2 (same_value _ _ (sym (slot_held _ _ _ _ got.1 c.exchange.ensures.2) ∙ c.in-Value.is)) for

pub returns-clause-fetched : goal.returns-clause-fetched
returns-clause-fetched g c = let got = come g.T.Fits.fits _ _ _ _ _ _ _ _ c.requires.receiving.1 c.load.ensures.2 c.requires.word c.if-load-full.false in
    slot_laid _ _ _ _ _ got.1 c.exchange.ensures.3
