-- `listing::put_bytes` meets its contract.
use Prim.Native.Nat.{ℕ, ◌+◌, ◌-◌}
use mathlib.Core.Path.{◌≡◌, refl, ap, ◌∙◌}
use mathlib.Core.List.{List, ◌++◌}
use native.Mathlib.Omega.{arith}
use lib.ListN.{length, take, drop}
use lib.Seq.{drop-drop}
use Rattle.listing.specs.Putting.{put_at}
use Rattle.listing.proofs.put_bytes.Goals as goal

pub returns : goal.returns
unfolding put_at
returns c =
    let s = c.args in
    let long : s.at + (s.at + length s.text.now - s.at) ≡ s.at + length s.text.now = omega arith in
    record {
      is = rw c.copy_from_slice.ensures.after (ap (λ (l : List ℕ). take s.at s.out.now ++ (s.text.now ++ l)) (drop-drop _ s.at s.out.now ∙ ap (λ (n : ℕ). drop n s.out.now) long));
      ends = refl;
    }
