-- `text::read` meets its contract. Every reading of the text has the lines that were taken and means their values, so where the next line or its
-- value is refused there is none; and the seven lines, with what their values mean, are one.
use Rattle.std.proofs.Common.{subst, rules}
use Rattle.std.proofs.lemmas.List.{nil_from_length}
use borrow.Author.Tests.{tests}
use Rattle.text.specs.Requests.{Optional}
use Rattle.text.specs.Requests.HasRead.{readable, unreadable}
use Rattle.text.proofs.Grammar.{number_plain, optional_plain, listed_plain}
use Rattle.text.proofs.Numbers.{optional-same}
use Rattle.text.proofs.StandingLines.{any_line, means, goes_on, stands_line}
use Rattle.text.proofs.read.Goals as goal

pub returns-in_err-field : goal.returns-in_err-field
returns-in_err-field c =
    rw c.from_residual.ensures (unreadable (λ r p. c.in_err-field.ensures (any_line p)))

pub returns-in_err-field-2 : goal.returns-in_err-field-2
returns-in_err-field-2 c =
    rw c.from_residual-in_err-field-2.ensures (unreadable (λ r p. c.in_err-field-2.ensures r.field (means number_plain c.in_ok-field.ensures p)))

pub returns-in_err-k : goal.returns-in_err-k
returns-in_err-k c =
    rw c.from_residual-in_err-k.ensures (unreadable (λ r p. c.in_err-k.ensures (any_line (goes_on number_plain c.in_ok-field.ensures p))))

pub returns-in_err-k-2 : goal.returns-in_err-k-2
returns-in_err-k-2 c =
    rw c.from_residual-in_err-k-2.ensures (unreadable (λ r p. c.in_err-k-2.ensures r.k (means number_plain c.in_ok-k.ensures (goes_on number_plain c.in_ok-field.ensures p))))

pub returns-in_err-m : goal.returns-in_err-m
returns-in_err-m c =
    rw c.from_residual-in_err-m.ensures (unreadable (λ r p. c.in_err-m.ensures (any_line (goes_on number_plain c.in_ok-k.ensures (goes_on number_plain c.in_ok-field.ensures p)))))

pub returns-in_err-m-2 : goal.returns-in_err-m-2
returns-in_err-m-2 c =
    rw c.from_residual-in_err-m-2.ensures (unreadable (λ r p. c.in_err-m-2.ensures r.m (means (optional_plain 1) c.in_ok-m.ensures (goes_on number_plain c.in_ok-k.ensures (goes_on number_plain c.in_ok-field.ensures p)))))

pub returns-in_err-l : goal.returns-in_err-l
returns-in_err-l c =
    rw c.from_residual-in_err-l.ensures (unreadable (λ r p. c.in_err-l.ensures (any_line (goes_on (optional_plain 1) c.in_ok-m.ensures (goes_on number_plain c.in_ok-k.ensures (goes_on number_plain c.in_ok-field.ensures p))))))

-- an empty `l=` means the value of `m=`, which is r's
pub returns-in_err-l-2 : goal.returns-in_err-l-2
returns-in_err-l-2 c =
    rw c.from_residual-in_err-l-2.ensures (unreadable (λ r p. let m = (goes_on number_plain c.in_ok-k.ensures (goes_on number_plain c.in_ok-field.ensures p)) in
    let m_is = means (optional_plain 1) c.in_ok-m.ensures m in
    let l_is = means (optional_plain r.m) c.in_ok-l.ensures (goes_on (optional_plain 1) c.in_ok-m.ensures m) in
    c.in_err-l-2.ensures r.l (subst (λ m. Optional m c.in_ok-l.l.now r.l) (optional-same 1 m_is c.in_ok-m-2.ensures) l_is)))

pub returns-in_err-t : goal.returns-in_err-t
returns-in_err-t c =
    rw c.from_residual-in_err-t.ensures (unreadable (λ r p. c.in_err-t.ensures (any_line (goes_on (optional_plain r.m) c.in_ok-l.ensures (goes_on (optional_plain 1) c.in_ok-m.ensures (goes_on number_plain c.in_ok-k.ensures (goes_on number_plain c.in_ok-field.ensures p)))))))

pub returns-in_err-t-2 : goal.returns-in_err-t-2
returns-in_err-t-2 c =
    rw c.from_residual-in_err-t-2.ensures (unreadable (λ r p. c.in_err-t-2.ensures r.t (means number_plain c.in_ok-t.ensures (goes_on (optional_plain r.m) c.in_ok-l.ensures (goes_on (optional_plain 1) c.in_ok-m.ensures (goes_on number_plain c.in_ok-k.ensures (goes_on number_plain c.in_ok-field.ensures p)))))))

pub returns-in_err-points : goal.returns-in_err-points
returns-in_err-points c =
    rw c.from_residual-in_err-points.ensures (unreadable (λ r p. c.in_err-points.ensures (any_line (goes_on number_plain c.in_ok-t.ensures (goes_on (optional_plain r.m) c.in_ok-l.ensures (goes_on (optional_plain 1) c.in_ok-m.ensures (goes_on number_plain c.in_ok-k.ensures (goes_on number_plain c.in_ok-field.ensures p))))))))

pub returns-in_err-points-2 : goal.returns-in_err-points-2
returns-in_err-points-2 c =
    rw c.from_residual-in_err-points-2.ensures (unreadable (λ r p. c.in_err-points-2.ensures r.points (means listed_plain c.in_ok-points.ensures (goes_on number_plain c.in_ok-t.ensures (goes_on (optional_plain r.m) c.in_ok-l.ensures (goes_on (optional_plain 1) c.in_ok-m.ensures (goes_on number_plain c.in_ok-k.ensures (goes_on number_plain c.in_ok-field.ensures p))))))))

pub returns-in_err-word : goal.returns-in_err-word
returns-in_err-word c =
    rw c.from_residual-in_err-word.ensures (unreadable (λ r p. c.in_err-word.ensures (any_line (goes_on listed_plain c.in_ok-points.ensures (goes_on number_plain c.in_ok-t.ensures (goes_on (optional_plain r.m) c.in_ok-l.ensures (goes_on (optional_plain 1) c.in_ok-m.ensures (goes_on number_plain c.in_ok-k.ensures (goes_on number_plain c.in_ok-field.ensures p)))))))))

pub returns-in_err-word-2 : goal.returns-in_err-word-2
returns-in_err-word-2 c =
    rw c.from_residual-in_err-word-2.ensures (unreadable (λ r p. c.in_err-word-2.ensures r.word (means listed_plain c.in_ok-word.ensures (goes_on listed_plain c.in_ok-points.ensures (goes_on number_plain c.in_ok-t.ensures (goes_on (optional_plain r.m) c.in_ok-l.ensures (goes_on (optional_plain 1) c.in_ok-m.ensures (goes_on number_plain c.in_ok-k.ensures (goes_on number_plain c.in_ok-field.ensures p)))))))))

pub returns-then-not-is_empty : goal.returns-then-not-is_empty
returns-then-not-is_empty c =
    unreadable (λ r p. let ends = goes_on listed_plain c.in_ok-word.ensures (goes_on listed_plain c.in_ok-points.ensures (goes_on number_plain c.in_ok-t.ensures (goes_on (optional_plain r.m) c.in_ok-l.ensures (goes_on (optional_plain 1) c.in_ok-m.ensures (goes_on number_plain c.in_ok-k.ensures (goes_on number_plain c.in_ok-field.ensures p)))))) in search (rules, tests))

pub returns : goal.returns
returns c =
    readable (record {
      field = c.in_ok-field-2.field;
      k = c.in_ok-k-2.k;
      m = c.in_ok-m-2.m;
      l = c.in_ok-l-2.l;
      t = c.in_ok-t-2.t;
      points = c.in_ok-points-2.points;
      word = c.in_ok-word-2.word;
    }) (stands_line c.in_ok-field.ensures c.in_ok-field-2.ensures (stands_line c.in_ok-k.ensures c.in_ok-k-2.ensures
    (stands_line c.in_ok-m.ensures c.in_ok-m-2.ensures (stands_line c.in_ok-l.ensures c.in_ok-l-2.ensures
    (stands_line c.in_ok-t.ensures c.in_ok-t-2.ensures (stands_line c.in_ok-points.ensures c.in_ok-points-2.ensures
    (stands_line c.in_ok-word.ensures c.in_ok-word-2.ensures (nil_from_length c.in_ok-word.rest.now (search (rules, tests))))))))))
