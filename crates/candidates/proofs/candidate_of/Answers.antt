-- `candidate_of` meets its contract: the value that is read has eight bits.
use mathlib.Core.Path.{refl}
use lib.IntN.{pos}
use Prim.Native.Nat.{◌%◌}
use lib.ListN.{get_or}
use mir.Syntax.{w8}
use mir.Val.{SFits}
use mir.Facts.{to_z-of_z}
use borrow.Author.Rules.{rules}
use Rattle.laws.proofs.ValueLaws.{byte_range}
use Rattle.candidates.specs.Keys.{candidate_of}
use Rattle.candidates.proofs.candidate_of.Goals as goal

pub returns : goal.returns
unfolding candidate_of
returns c =
    let z = get_or c.args.zs.now (c.args.key % 256) (pos 0) in
    let f : SFits w8 z = search rules in
    rw (to_z-of_z f, c.requires) (refl, byte_range z f.sfits)
