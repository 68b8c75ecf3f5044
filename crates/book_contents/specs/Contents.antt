-- What a user has who wants a book (W-205): the header's values, a first class for each chain, and four lists.
use Rattle.std.specs.Prelude.{ℕ, ◌+◌, ◌-◌, List, get_or, length}
use Rattle.std.specs.Borrow.{Bor}
use Rattle.lists.specs.Sums.{sum_below}
use Rattle.book.specs.Layout.{last_class}
use Rattle.book_contents.specs.declared.Values.{Values}
use Rattle.book_contents.specs.declared.ByKind.{ByKind}

pub record Contents : Type 0 where
  -- edition, mortality percentages of men and women, SST year, cost rates, curve, mortality, first class of each chain
  pub values : Values
  -- Count, lapse, premium, claims: each holds the lists of the chains end to end, in head order, a list by rising
  -- class.
  pub counts : List ℕ
  pub lapses : List ℕ
  pub premiums : List ℕ
  pub claims : List ℕ

-- the contents that a call is given
abbrev pub given : Values → List ℕ → List ℕ → List ℕ → List ℕ → Contents
given values counts lapses premiums claims =
    record { values = values; counts = counts; lapses = lapses; premiums = premiums; claims = claims }

-- the same, of lists that are passed together; and how long each kind's are
abbrev pub given_lists : Values → ByKind (Bor (List ℕ)) → Contents
given_lists values lists = given values lists.counts.now lists.lapses.now lists.premiums.now lists.claims.now

abbrev pub lengths_of : ByKind (Bor (List ℕ)) → ByKind ℕ
lengths_of lists =
    record {
      counts = length lists.counts.now;
      lapses = length lists.lapses.now;
      premiums = length lists.premiums.now;
      claims = length lists.claims.now;
    }

-- the first class of an empty chain, 121: one above the last
abbrev pub no_class : ℕ
no_class = last_class 1 + 1

-- how many records chain k has, and so how long each of its lists is: one for each class from its first to 120
unfoldable pub size_of : List ℕ → ℕ → ℕ
size_of first k = no_class - get_or first k 0

-- how many the chains before chain k have together
abbrev pub records_before : List ℕ → ℕ → ℕ
records_before first k = sum_below (size_of first) k
