-- `routes::Route::empty` meets its contract.
use native.Mathlib.Nat.{not-suc-le-zero}
use native.Mathlib.Omega.{arith}
use mathlib.Core.Path.{refl}
use Rattle.routes.proofs.Route.empty.Goals as goal

pub returns : goal.returns
returns c = (
  λ N. record {
    sized = record { legs = refl; fares = refl; links = refl; few = omega arith };
    exist = λ i h. absurd (not-suc-le-zero h);
    fares = λ i h. absurd (not-suc-le-zero h);
    links = λ i h. absurd (not-suc-le-zero h);
  },
  refl,
)
