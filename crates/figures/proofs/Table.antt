-- The starred figures of docs/RULES.md hold.
use mathlib.Core.Path.{◌≡◌, refl, sym, ◌∙◌}
use mathlib.Core.Logic.{⊎_elim}
use mathlib.Core.List.{List, [], ◌∷◌}
use Prim.Native.Nat.{ℕ, ◌≤◌, ◌<◌}
use native.Mathlib.Omega.{arith}
use lib.Dec.{T, eqb, eqb→eq}
use lib.ListN.{length, get_or, take}
use lib.Seq.{ext_get_or, get_or-take, length-take-le}
use Rattle.field.specs.BitPolynomials.{bit_product, bit_remainder}
use Rattle.field.specs.Symbols.{symbol, sum_of, product_of}
use Rattle.field.specs.Operations.{Listed}
use Rattle.field.proofs.SixteenLaws.{sixteen}
use Rattle.field.proofs.Tests.{all, all-at}
use Rattle.poly.specs.Polynomials.{value}
use Rattle.poly.specs.Table.{First}
use Rattle.poly.specs.Encode.{encode_table, value_at}
use Rattle.poly.proofs.TableLaws.{◌⊳◌, first_determined, not_unlisted, none-large, good-count, good-degree}
use Rattle.rows.specs.Jobs.{start_table}
use Rattle.figures.specs.Figures.{six, zero_to_15, Encodes, Calls, three, at_three, word_0_0_1, Figures}
use Rattle.figures.proofs.Computed.{seven, small, distinct, all-below, all-different, at-three}
use Rattle.figures.proofs.Calls.{calls_give, calls-lightest}
use Rattle.figures.proofs.Numbers.{start-goes, p_9, n_2, k-n, l_9, n_17, symbol_16}
use Rattle.figures.proofs.Word123.{worked_1_2_3}
use Rattle.figures.proofs.Word001.{h-is, formula-is-one, worked_0_0_1}
use Rattle.figures.proofs.Word000.{worked_0_0_0}
use Rattle.figures.proofs.Listed001.{list_2, list_3}
use Rattle.figures.proofs.ZeroWord.{zero_word}
use Rattle.figures.proofs.Minutes.{minute_gives}

-- a message that encode takes, and the word that antt computes
record Encodable (p : ℕ) (points message word : List ℕ) : Type 0 where
  pub size : Listed p
  pub some : 3 ≤ length points
  pub most : length points ≤ p
  pub places : T (small p points)
  pub different : T (distinct points)
  pub low : 2 ≤ length message
  pub degree : length message < length points
  pub symbols : T (small p message)
  pub long : length word ≡ length points
  pub values : T (all (length points) (λ s. eqb (value_at p message (get_or points s 0)).byte (get_or word s 0)))

encodes : {p : ℕ} {points message word : List ℕ} → Encodable p points message word → Encodes p points message word
encodes {p} {points} {message} {word} c before after number room e =
    let z : number ≡ 0 = first_determined (encode_table p points message before) number 0 e.first passes in
    let n : length (take (length points) after) ≡ length points = length-take-le (length points) after (let q = e.long in omega arith) in (
      z,
      ext_get_or 0 (take (length points) after) word (n ∙ sym c.long) (λ s h. get_or-take (length points) after s 0 (omega arith)
          ∙ e.word z s (omega arith)
          ∙ eqb→eq _ _ (all-at (length points) (λ s. eqb (value_at p message (get_or points s 0)).byte (get_or word s 0)) c.values s (omega arith))),
    )
  where
    passes : First (encode_table p points message before) 0
    passes =
        not_unlisted c.size
        ⊳ good-count c.some c.most
        ⊳ good-degree c.low c.degree
        ⊳ ⊎_elim (none-large (all-below p points c.places)) (none-large (all-below p message c.symbols))
        ⊳ all-different points c.different
        ⊳ (λ h. omega arith)
        ⊳ refl

-- at the points 1 to 6 over the field of 7, with three symbols
at-six : (message word : List ℕ) → length message ≡ 3 → T (small 7 message) → length word ≡ 6
    → T (all 6 (λ s. eqb (value_at 7 message (get_or six s 0)).byte (get_or word s 0))) → Encodes 7 six message word
at-six message word k below long values =
    encodes {p = 7} {points = six} {message = message} {word = word}
    (record {
      size = seven;
      some = omega arith;
      most = omega arith;
      places = tt;
      different = tt;
      low = omega arith;
      degree = omega arith;
      symbols = below;
      long = long;
      values = values;
    })

message_5_2_6 : Encodes 7 six (5 ∷ 2 ∷ 6 ∷ []) (6 ∷ 5 ∷ 2 ∷ 4 ∷ 4 ∷ 2 ∷ [])
unfolding value symbol sum_of product_of
message_5_2_6 = at-six (5 ∷ 2 ∷ 6 ∷ []) (6 ∷ 5 ∷ 2 ∷ 4 ∷ 4 ∷ 2 ∷ []) refl tt refl tt

message_1_3_4 : Encodes 7 six (1 ∷ 3 ∷ 4 ∷ []) (1 ∷ 2 ∷ 4 ∷ 0 ∷ 4 ∷ 2 ∷ [])
unfolding value symbol sum_of product_of
message_1_3_4 = at-six (1 ∷ 3 ∷ 4 ∷ []) (1 ∷ 2 ∷ 4 ∷ 0 ∷ 4 ∷ 2 ∷ []) refl tt refl tt

abbrev word_1_2 : List ℕ
word_1_2 = 1 ∷ 3 ∷ 5 ∷ 7 ∷ 9 ∷ 11 ∷ 13 ∷ 15 ∷ 2 ∷ 0 ∷ 6 ∷ 4 ∷ 10 ∷ 8 ∷ 14 ∷ 12 ∷ []

message_1_2 : Encodes 16 zero_to_15 (1 ∷ 2 ∷ []) word_1_2
unfolding value symbol sum_of product_of bit_product bit_remainder
message_1_2 =
    encodes {p = 16} {points = zero_to_15} {message = 1 ∷ 2 ∷ []} {word = word_1_2}
    (record {
      size = sixteen;
      some = omega arith;
      most = omega arith;
      places = tt;
      different = tt;
      low = omega arith;
      degree = omega arith;
      symbols = tt;
      long = refl;
      values = tt;
    })

-- start goes for a word at the points 1, 2, 3
goes : (word : List ℕ) {m : ℕ} (c : Calls (at_three word m)) → length word ≡ 3 → T (small 7 word) → 1 ≤ m → m ≤ 4 → c.start.number ≡ 0
goes word {m} c long below some most =
    first_determined (start_table 7 three word 2 m m c.lent) c.start.number 0 c.starts.first
    (start-goes (at-three word c.lent long below some most c.room))

pub figures : Figures
figures =
    record {
      message_5_2_6 = message_5_2_6;
      message_1_3_4 = message_1_3_4;
      curve_1_2_3 = λ c. calls_give c (goes three c refl tt (omega arith) (omega arith)) worked_1_2_3;
      h_0_0_1 = h-is;
      formula_0_0_1 = formula-is-one;
      curve_0_0_1 = λ c. calls_give c (goes word_0_0_1 c refl tt (omega arith) (omega arith)) worked_0_0_1;
      lightest_0_0_1 = λ c. calls-lightest c (goes word_0_0_1 c refl tt (omega arith) (omega arith)) worked_0_0_1;
      list_t_3 = list_3;
      list_t_2 = list_2;
      curve_0_0_0 = λ c. calls_give c (goes (0 ∷ 0 ∷ 0 ∷ []) c refl tt (omega arith) (omega arith)) worked_0_0_0;
      zero_word = zero_word;
      p_9_gives_1 = p_9;
      n_2_gives_2 = n_2;
      k_n_gives_4 = λ points word m l t some most same. k-n points word some most same m l t;
      l_9_gives_5 = λ points word k m t some most same. l_9 points word some most same k m t;
      message_1_2_at_16 = message_1_2;
      n_17_gives_2_at_16 = n_17;
      symbol_16_gives_6_at_16 = symbol_16;
      minute_1455 = minute_gives 1455 refl refl;
      minute_1799 = minute_gives 1799 refl refl;
    }
