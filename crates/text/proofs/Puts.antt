-- Texts put one after the other are their join, put at once.
use Rattle.std.proofs.Common.{◌≡◌, refl, sym, ap, ◌∙◌, List, [], ◌++◌, ℕ, zero, suc, ◌+◌, ◌-◌, ◌*◌, ◌≤◌, ◌<◌, length}
use Rattle.std.proofs.Common.{get_or, take, drop, arith, add-zero, add-one, append_assoc, append-nil, length-append, length-drop, take-append-drop}
use lib.Seq.{take_at, drop_at, drop-drop, length-take-le}
use Rattle.text.specs.Lines.{bytes, line}
use Rattle.text.specs.Answers.{decimal, comma, joined, commas, message_lines}
use Rattle.text.specs.Writing.{Put}
use Rattle.text.specs.declared.writing.Page.{Page}

-- nothing was put
pub puts_nothing : (page : Page) → page.len ≤ length page.out.now → Put page [] 0 page
puts_nothing page h = record {
  short = omega arith;
  inside = omega arith;
  ends = sym (add-zero page.len);
  is = sym (rw append-nil (take-append-drop page.len page.out.now));
  same = refl;
}

module _ {before after : Page} {text : List ℕ} {bound : ℕ} (p : Put before text bound after) where
  head-long : length (take before.len before.out.now ++ text) ≡ after.len
  head-long =
      length-append (take before.len before.out.now) text ∙ rw (length-take-le before.len before.out.now (omega (arith, p.inside))) (sym p.ends)

  puts_long : length after.out.now ≡ length before.out.now
  puts_long =
      ap length p.is ∙ length-append (take before.len before.out.now ++ text) (drop after.len before.out.now)
      ∙ rw (head-long, length-drop) (omega (arith, p.ends, p.inside))

  pub puts_bound : {more : ℕ} → bound ≤ more → Put before text more after
  puts_bound h = record { short = omega (arith, p.short); inside = p.inside; ends = p.ends; is = p.is; same = p.same }

  rest-kept : (n : ℕ) → drop (after.len + n) after.out.now ≡ drop (after.len + n) before.out.now
  rest-kept n =
      sym (drop-drop n after.len after.out.now)
      ∙ ap (drop n) (ap (drop after.len) p.is ∙ drop_at (take before.len before.out.now ++ text) (drop after.len before.out.now) after.len head-long)
      ∙ drop-drop n after.len before.out.now

  pub puts_join : {last : Page} {more : List ℕ} {size : ℕ} → Put after more size last → Put before (text ++ more) (bound + size) last
  puts_join {last} {more} {size} q =
      let head : take after.len after.out.now ≡ take before.len before.out.now ++ text =
      ap (take after.len) p.is ∙ take_at (take before.len before.out.now ++ text) (drop after.len before.out.now) after.len head-long in
      let rest : drop last.len after.out.now ≡ drop last.len before.out.now = rw q.ends (rest-kept (length more)) in
      record {
        short = rw length-append (omega (arith, p.short, q.short));
        inside = rw length-append (omega (arith, p.ends, q.inside, puts_long));
        ends = rw length-append (omega (arith, p.ends, q.ends));
        is = q.is ∙ ap (λ (l : List ℕ). l ++ more ++ drop last.len after.out.now) head
            ∙ ap (λ (l : List ℕ). take before.len before.out.now ++ text ++ more ++ l) rest ∙ simp append_assoc;
        same = q.same ∙ p.same;
      }

-- one number more, after a comma unless it is the first
pub first_number : {before mid after : Page} (ns : List ℕ) (i : ℕ) → i ≡ 0 → Put before (joined i ns) (6 * i) mid
    → Put mid (decimal (get_or ns i 0)) 5 after → Put before (joined (i + 1) ns) (6 * (i + 1)) after
unfolding comma joined
first_number ns zero e p q = puts_bound (puts_join p q) (omega arith)
first_number ns (suc i) e p q = absurd (omega arith)

pub next_number : {before mid comma_put after : Page} (ns : List ℕ) (i : ℕ) → 0 < i → Put before (joined i ns) (6 * i) mid
    → Put mid (bytes ",") 1 comma_put → Put comma_put (decimal (get_or ns i 0)) 5 after → Put before (joined (i + 1) ns) (6 * (i + 1)) after
unfolding comma joined
next_number ns zero e p q r = absurd (omega arith)
next_number ns (suc i) e p q r = rw add-one (puts_bound (puts_join p (puts_join q r)) (omega arith))

-- one message more, the k bytes from i * k on
pub next_message : {before mid after : Page} (i k : ℕ) (xs : List ℕ) → i * k + k ≤ length xs
    → Put before (message_lines i k xs) (i * (9 + 6 * k)) mid
    → Put mid (line (bytes "message=") (commas (take (i * k + k - i * k) (drop (i * k) xs))))
    (9 + 6 * length (take (i * k + k - i * k) (drop (i * k) xs))) after
    → Put before (message_lines (i + 1) k xs) ((i + 1) * (9 + 6 * k)) after
unfolding message_lines
next_message i k xs h p q =
    let e : i * k + k - i * k ≡ k = omega arith in
    let long : length (take k (drop (i * k) xs)) ≡ k = length-take-le k (drop (i * k) xs) (rw length-drop (omega arith)) in
    rw add-one (puts_bound (puts_join p (rw e at q)) (omega (arith, long)))
