-- A row filled column by column, and kept while later rows are filled. Assumes nothing.
use mathlib.Core.Path.{◌≡◌, refl}
use mathlib.Core.List.{List}
use Prim.Native.Nat.{ℕ, ◌+◌, ◌*◌, ◌≤◌, ◌<◌}
use native.Mathlib.Omega.{arith}
use borrow.Author.Count.{below_more}
use lib.Dec.{eqb}
use lib.ListN.{length, get_or, set, length-set}
use lib.Seq.{get_or-set_same, get_or-set_other}
use Rattle.arith.specs.Fractions.{IsFraction}
use Rattle.book.specs.Rules.{RecordRules}
use Rattle.book.specs.Layout.{class_of, field_of, lapse_offset}
use Rattle.settings_decrements.specs.Decrements.{of_sex, WeightsOf}
use Rattle.settings_decrements.specs.declared.DecrementWeights.{DecrementWeights}
use Rattle.settings.proofs.Weights.{pick_le}
use Rattle.valuation.specs.Portfolio.{mortality_of, one_less}
use Rattle.rate_table.specs.Rows.{rate, fraction, survival_at, persistency_at, rate_of, RowOf}
use Rattle.rate_table.specs.Puts.{Put, Holds, Filled, RowPut}

-- two stores
pub put_both : (t : List ℕ) (at f v : ℕ) → at + 8 < length t → IsFraction v 1_000_000_000 f
    → Put t (set (set t at f) (at + 8) v) at v
put_both t at f v h e =
    record {
      fraction_is = rw
          (get_or-set_other (set t at f) (at + 8) at v 0 (λ q. omega arith), get_or-set_same t at f 0 (omega arith)) e;
      rate_is = get_or-set_same (set t at f) (at + 8) v 0 (omega (arith, length-set t at f));
      kept = λ j p q. rw (get_or-set_other (set t at f) (at + 8) j v 0 q, get_or-set_other t at j f 0 p);
    }

-- a column more
pub filled_more : (rates : ℕ → ℕ) (before t u : List ℕ) (r n v : ℕ) → n < 8 → Filled rates before t r n
    → Put t u (16 * r + n) v → v ≡ rates n
    → v ≤ 1_000_000_000 → Filled rates before u r (n + 1)
filled_more rates before t u r n v low f p e h =
    record {
      holds = below_more (λ c. Holds u r c (rates c)) n
          (λ c g.
          let old = f.holds c g in
          record {
            part = rw (p.kept (16 * r + c) (λ q. omega arith) (λ q. omega arith)) old.part;
            whole = rw (p.kept (16 * r + c + 8) (λ q. omega arith) (λ q. omega arith)) old.whole;
            most = old.most;
          })
          (rw (← e) (record { part = p.fraction_is; whole = p.rate_is; most = h }));
      kept = λ j k. rw (p.kept j (λ q. omega arith) (λ q. omega arith)) (f.kept j k);
    }

pub filled_none : (rates : ℕ → ℕ) (t : List ℕ) (r : ℕ) → Filled rates t t r 0
filled_none rates t r = record { holds = λ c l. absurd (omega arith); kept = λ j l. refl }

-- what lives on and what stays of record i, from the weights as they were read
pub survival_is : (b : List ℕ) (sex i class m setting q : ℕ) (w : DecrementWeights) → class ≡ class_of b i
    → m ≡ mortality_of b sex class
    → WeightsOf b setting w → q ≡ of_sex sex w → one_less m q ≡ survival_at b sex i setting
survival_is b sex i class m setting q w e f o g = rw (f, e, g, o.are)

pub persistency_is : (b : List ℕ) (i l setting : ℕ) (w : DecrementWeights) → l ≡ field_of b i lapse_offset
    → WeightsOf b setting w
    → one_less l w.lapse ≡ persistency_at b i setting
persistency_is b i l setting w e o = rw (e, o.are)

-- no weight of a sex is above 1,300
pub sex_most : (b : List ℕ) (setting sex q : ℕ) (w : DecrementWeights) → WeightsOf b setting w → q ≡ of_sex sex w
    → q ≤ 1300
sex_most b setting sex q w o e = rw e (pick_le (eqb sex 0) 1300 o.men o.women)

module _ (b : List ℕ) (sex i : ℕ) where
  -- all eight columns are the record's row
  pub row_filled : (chain : ℕ) → RecordRules b 120 chain i → (before t : List ℕ) (r : ℕ)
      → Filled (rate_of b sex i) before t r 8
      → RowPut b sex i before t r
  unfolding rate_of
  row_filled chain k before t r f =
      record {
        row = record {
          ready = record {
            fractions = λ c h. rw (f.holds c h).whole (f.holds c h).part;
            shares = λ c h. rw (f.holds c (omega arith)).whole (f.holds c (omega arith)).most;
            premium = rw (f.holds 6 (omega arith)).whole k.premium;
            claims = rw (f.holds 7 (omega arith)).whole k.claims;
          };
          rates = λ c h. (f.holds c h).whole;
        };
        kept = f.kept;
      }

  -- a row with the numbers of another, of the same table or one before
  pub row_same : (t u : List ℕ) (r s : ℕ) → ((c : ℕ) → c < 8 → rate u s c ≡ rate t r c)
      → ((c : ℕ) → c < 8 → fraction u s c ≡ fraction t r c)
      → RowOf b sex i t r → RowOf b sex i u s
  row_same t u r s same parts o =
      record {
        ready = record {
          fractions = λ c l. rw (same c l, parts c l) (o.ready.fractions c l);
          shares = λ c l. rw (same c (omega arith)) (o.ready.shares c l);
          premium = rw (same 6 (omega arith)) o.ready.premium;
          claims = rw (same 7 (omega arith)) o.ready.claims;
        };
        rates = λ c l. rw (same c l) (o.rates c l);
      }

  -- a row among those kept
  pub row_kept : (t u : List ℕ) (r n : ℕ) → r < n → ((j : ℕ) → j < 16 * n → get_or u j 0 ≡ get_or t j 0)
      → RowOf b sex i t r → RowOf b sex i u r
  row_kept t u r n h k o =
      row_same t u r r (λ c l. k (16 * r + c + 8) (omega arith)) (λ c l. k (16 * r + c) (omega arith)) o
