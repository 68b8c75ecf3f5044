-- The contracts of the calls for C: the reply's fields are those of the reply as defined, and of that reply, and of
-- what each buffer then holds, everything is true that the call's own contract says.
use Rattle.std.specs.Prelude.{◌≡◌, List, ℕ, ℤ, length, Float}
use Rattle.book.specs.Check.{check_book}
use Rattle.book.specs.CallContracts.{CheckContract}
use Rattle.age_basis_definitions.specs.Conversion.{convert_check, ConvertContract}
use Rattle.valuation.specs.Replies.{group_reply, GroupContract}
use Rattle.listing.specs.Listing.{listing_reply, ListingContract}
use Rattle.report_text.specs.Report.{report_reply, report_length_reply, ReportContract, ReportLengthContract}
use Rattle.book_contents.specs.Contents.{Contents}
use Rattle.book_contents.specs.CallContracts.{write_reply, WriteContract}
use Rattle.fund_definitions.specs.Funds.{funds_reply, FundsContract}
use Rattle.in_force.specs.InForceRun.{in_force_check, InForceContract}
use Rattle.claims_variation.specs.Replies.{spread_reply, SpreadContract}
use Rattle.claims_estimates.specs.declared.Summary.{Summary}
use Rattle.claims_estimates.specs.declared.SampleFactors.{SampleFactors}
use Rattle.practice_book.specs.Practice.{practice_reply, PracticeContract}
use Rattle.c_api_fields.specs.Fields.{verdict_fields, in_force_fields, funds_fields, group_fields}
use Rattle.c_api_fields.specs.Fields.{text_fields, write_fields, spread_fields}
use Rattle.c_api_fields.specs.declared.VerdictFields.{VerdictFields}
use Rattle.c_api_fields.specs.declared.GroupFields.{GroupFields}
use Rattle.c_api_fields.specs.declared.ReportFields.{ReportFields}
use Rattle.c_api_fields.specs.declared.WriteFields.{WriteFields}
use Rattle.c_api_fields.specs.declared.FundsFields.{FundsFields}
use Rattle.c_api_fields.specs.declared.InForceFields.{InForceFields}
use Rattle.c_api_fields.specs.declared.SpreadFields.{SpreadFields}

pub record CheckExported (b : List ℕ) (r : VerdictFields) : Type 0 where
  pub fields_are : r ≡ verdict_fields (check_book 1 b)
  pub promised : CheckContract b (check_book 1 b)

pub record GroupExported (b : List ℕ) (setting g : ℕ) (before after : List ℕ) (r : GroupFields) : Type 0 where
  pub fields_are : r ≡ group_fields (group_reply b setting g (length before))
  pub promised : GroupContract b setting g before after (group_reply b setting g (length before))

pub record ListingExported (b before after : List ℕ) (r : ReportFields) : Type 0 where
  pub fields_are : r ≡ text_fields (listing_reply b (length before))
  pub promised : ListingContract b before after (listing_reply b (length before))

pub record ReportExported (b : List ℕ) (setting : ℕ) (before after : List ℕ) (r : ReportFields) : Type 0 where
  pub fields_are : r ≡ text_fields (report_reply b setting (length before))
  pub promised : ReportContract b setting before after (report_reply b setting (length before))

pub record ReportLengthExported (b : List ℕ) (setting : ℕ) (r : ReportFields) : Type 0 where
  pub fields_are : r ≡ text_fields (report_length_reply b setting)
  pub promised : ReportLengthContract b setting (report_length_reply b setting)

pub record ConvertExported (b before after : List ℕ) (r : VerdictFields) : Type 0 where
  pub fields_are : r ≡ verdict_fields (convert_check b (length before))
  pub promised : ConvertContract b before after (convert_check b (length before))

pub record WriteExported (v : Contents) (before after : List ℕ) (r : WriteFields) : Type 0 where
  pub fields_are : r ≡ write_fields (write_reply v (length before))
  pub promised : WriteContract v before after (write_reply v (length before))

pub record FundsExported (table first second : List ℕ) (before after : List ℤ) (r : FundsFields) : Type 0 where
  pub fields_are : r ≡ funds_fields (funds_reply (length before) table first second)
  pub promised : FundsContract table first second before after (funds_reply (length before) table first second)

pub record InForceExported (b : List ℕ) (setting code sex class : ℕ) (before after : List ℕ)
    (r : InForceFields) : Type 0 where
  pub fields_are : r ≡ in_force_fields (in_force_check b setting code sex class (length before))
  pub promised : InForceContract b setting code sex class before after
      (in_force_check b setting code sex class (length before))

-- the sample factors, which come as two numbers
abbrev pub sample_factors : Float → Float → SampleFactors
sample_factors xi eta = record { xi = xi; eta = eta }

pub record SpreadExported (s : Summary) (xi eta : Float) (r : SpreadFields) : Type 0 where
  pub fields_are : r ≡ spread_fields (spread_reply s (sample_factors xi eta))
  pub promised : SpreadContract s (sample_factors xi eta) (spread_reply s (sample_factors xi eta))

pub record PracticeExported (start : ℕ) (before after : List ℕ) (r : WriteFields) : Type 0 where
  pub fields_are : r ≡ write_fields (practice_reply start (length before))
  pub promised : PracticeContract start before after (practice_reply start (length before))
