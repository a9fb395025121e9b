-- What stands in the block is what was read so far.
use Rattle.std.proofs.Common.{rules, ◌≡◌, ℕ, ◌+◌, ◌-◌, ◌≤◌, List, ◌++◌, length, take, sym, ap, ◌∙◌, subst, length-take-le}
use Rattle.std.proofs.Math.Seq.{take-append-add}
use Rattle.std.proofs.lemmas.List.{take-append-le}
use Rattle.std.proofs.KnownBytes.{Consumes-trans}
use Rattle.std.specs.Io.KnownBytes.{Consumes}
use borrow.Rule.Slice.PartMut.{put_mid, post_of}
use Rattle.text.proofs.blocks.read_full.Goals as goal

read_more : (at room n : ℕ) (block part : List ℕ) → at ≤ length block → n ≤ length part
    → take at block ++ take n part ≡ take (at + n) (put_mid at room block part)
read_more at room n block part within fits =
    sym
    (ap (λ m. take (m + n) (put_mid at room block part)) (sym (length-take-le at block within))
    ∙ take-append-add (take at block) (part ++ post_of at room block) n
    ∙ ap (λ l. take at block ++ l) (take-append-le n part (post_of at room block) fits))

pub loop-done-preserved : goal.loop-done-preserved
loop-done-preserved g c =
    let l = c.loop-done in
    let more = read_more l.done (length l.block - l.done) c.in_ok-n.n l.block c.read.new.buf l.invariant.0 c.in_ok-n.ensures.bound.0 in
    (search rules, subst (Consumes _ _) more (Consumes-trans _ _ _ _ _ l.invariant.1 c.in_ok-n.ensures.bytes.0))
