-- `rows::after_station` meets its contract: there are few stations and few companies.
use native.Mathlib.Omega.{arith}
use Rattle.laws.proofs.Reading.{stations_few, companies_few}
use Rattle.rows.proofs.after_station.Goals as goal

pub overflow_add-number : goal.overflow_add-number
overflow_add-number c = omega (arith, stations_few _ c.args.book.laid_out _ c.requires.company, c.requires.number)

pub overflow_add-company : goal.overflow_add-company
overflow_add-company c = omega (arith, companies_few _ c.args.book.laid_out, c.requires.company)
