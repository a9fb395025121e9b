-- A rule's last company has its place, and the items of a map are told number by number.
use Rattle.std.proofs.Common.{◌≡◌, ℕ, ◌+◌, ◌-◌, ◌*◌, ◌/◌, ◌≤◌, ◌<◌, List, false, refl, length, get_or, arith}
use mathlib.Core.Logic.{⊎_elim}
use Rattle.std.proofs.Math.Nat.{zero-div}
use Rattle.std.proofs.lemmas.Bool.{cases_lt}
use Rattle.outline.specs.Book.{network}
use Rattle.outline.specs.Fares.{in_map}
use Rattle.outline.specs.Valid.{LaidOut}
use Rattle.laws.proofs.Reading.{rule_sized}
use Rattle.rules.specs.Rules.{GoodCompanies}

pub last_company : (b : List ℕ) (k : ℕ) (companies : List ℕ) (m : ℕ) → LaidOut b × (k < (network b).rules) × GoodCompanies (network b) ((network b).rule k)
    → companies ≡ ((network b).rule k).companies → m ≡ ((network b).rule k).rides → m - 1 < length companies
last_company b k companies m p e f = rw e (omega (arith, (rule_sized b p.0 k p.1).companies, p.2.rides.to))

-- a number of 0 holds none of its items
pub none_at_zero : (map : List ℕ) (k i : ℕ) → get_or map k 0 ≡ 0 → 8 * k ≤ i → i < 8 * (k + 1) → in_map map i ≡ false
unfolding in_map
none_at_zero map k i z m l =
    let e : i / 8 ≡ k = omega arith in
    rw (e, z, zero-div) refl

-- what holds below number k, and in it, holds below the next
pub more_items : (map : List ℕ) (items k : ℕ) → ((i : ℕ) → i < 8 * k → items ≤ i → in_map map i ≡ false)
    → ((i : ℕ) → items ≤ i → 8 * k ≤ i → i < 8 * (k + 1) → in_map map i ≡ false)
    → (i : ℕ) → i < 8 * (k + 1) → items ≤ i → in_map map i ≡ false
more_items map items k below here i l h = ⊎_elim (λ m. below i m h) (λ m. here i h m l) (cases_lt i (8 * k))
