-- `rows::Note::turn` meets its contract.
use mathlib.Core.Path.{refl}
use Rattle.poly.specs.Refusals.{number_of}
use Rattle.poly.proofs.RefusalLaws.{number_of-positive}
use Rattle.rows.proofs.Going.{turn-ready}
use Rattle.rows.proofs.Note.turn.Goals as goal

pub returns-in-Err : goal.returns-in-Err
returns-in-Err c =
    record {
      entry = number_of c.in-Err.refused;
      first = c.in-Err.ensures;
      goes = λ z. absurd (number_of-positive _ z);
      rest = record { long = refl; same = λ q h. refl };
      refused = λ n. (refl, refl, refl, refl);
    }

pub go-requires : goal.go-requires
go-requires c = turn-ready c.in_default.ensures refl

pub returns : goal.returns
returns c =
    record {
      entry = 0;
      first = c.in_default.ensures;
      goes = λ z. c.go.ensures.goes;
      rest = c.go.ensures.rest;
      refused = λ m. absurd (m refl);
    }
