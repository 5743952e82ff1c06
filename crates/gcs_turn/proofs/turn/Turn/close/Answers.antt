use Rattle.std.proofs.Common.{refl, subst, sym}
use Rattle.std.specs.Option.{IsSome}
use Rattle.gcs_turn.proofs.Finishes.{ends, closes}
use Rattle.gcs_turn.proofs.turn.Turn.close.Goals as goal

pub unwrap-object-requires : goal.unwrap-object-requires
unwrap-object-requires g c = let p = c.args.first in
    let t = ends g.O.Object.history g.O.Object.home _ _ _ p.seat c.requires.first p.live p.idle c.args.self.some c.requires.all c.close_with-closed.ensures.values.2 c.take.ensures.value in
    subst (λ o. IsSome o) (sym t.1) refl

pub returns-clause-home : goal.returns-clause-home
returns-clause-home g c = let p = c.args.first in
    (closes g.O.Object.history g.O.Object.home _ _ _ p.seat c.requires.first p.live p.idle c.args.self.some c.requires.all c.close_with-closed.ensures.values.2 c.take.ensures.value c.unwrap-object.ensures).home_is

pub returns-clause-first : goal.returns-clause-first
returns-clause-first g c = let p = c.args.first in
    (closes g.O.Object.history g.O.Object.home _ _ _ p.seat c.requires.first p.live p.idle c.args.self.some c.requires.all c.close_with-closed.ensures.values.2 c.take.ensures.value c.unwrap-object.ensures).first

pub returns-clause-taken : goal.returns-clause-taken
returns-clause-taken g c = let p = c.args.first in
    (closes g.O.Object.history g.O.Object.home _ _ _ p.seat c.requires.first p.live p.idle c.args.self.some c.requires.all c.close_with-closed.ensures.values.2 c.take.ensures.value c.unwrap-object.ensures).taken

pub returns-clause-all : goal.returns-clause-all
returns-clause-all g c = let p = c.args.first in
    (closes g.O.Object.history g.O.Object.home _ _ _ p.seat c.requires.first p.live p.idle c.args.self.some c.requires.all c.close_with-closed.ensures.values.2 c.take.ensures.value c.unwrap-object.ensures).all
