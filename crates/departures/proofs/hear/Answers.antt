-- `hear` meets its contract: the list job's outcome, taken apart.
use mathlib.Core.Path.{refl}
use Rattle.std.proofs.lemmas.Result.{err_from_is_err_and}
use borrow.Author.Rules.{rules}
use Rattle.poly.proofs.RefusalLaws.{number_of-positive}
use Rattle.departures.proofs.Telling.{heard-refused, heard-listed}
use Rattle.departures.proofs.Telling.Counted.{none, many, one, other}
use Rattle.departures.proofs.hear.Goals as goal

pub returns-in_err-near : goal.returns-in_err-near
returns-in_err-near c =
    let p = err_from_is_err_and c.from_residual.result c.from_residual.ensures.1 in
    rw (p.1, p.2) (heard-refused c.in_err-near.ensures (number_of-positive _))

pub returns-in-0 : goal.returns-in-0
returns-in-0 c = heard-listed c.in_ok-near.ensures refl (none c.in-0.is)

pub returns-in_err-read-in-1 : goal.returns-in_err-read-in-1
returns-in_err-read-in-1 c =
    let p = err_from_is_err_and c.from_residual-in_err-read-in-1.result c.from_residual-in_err-read-in-1.ensures.1 in
    rw (p.1, p.2) (heard-listed c.in_ok-near.ensures refl (other c.in-1.is _ c.in_err-read-in-1.ensures (number_of-positive _)))

pub returns-in_ok-read-in-1 : goal.returns-in_ok-read-in-1
returns-in_ok-read-in-1 c = heard-listed c.in_ok-near.ensures refl (one c.in-1.is _ c.in_ok-read-in-1.ensures refl)

pub returns-in_default : goal.returns-in_default
returns-in_default c = heard-listed c.in_ok-near.ensures refl (many (search rules) (search rules))
