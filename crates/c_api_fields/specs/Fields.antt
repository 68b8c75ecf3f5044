-- The replies of the calls in fields, as C has them: the paper's values of each reply.
use Rattle.std.specs.Prelude.{cond}
use Rattle.verdict.specs.Verdicts.{refusal_of, place_of, count_of, Verdict}
use Rattle.valuation.specs.Replies.{refusal_in, place_in, liability_in, count_in, GroupReply}
use Rattle.text_reply.specs.Replies.{text_refusal, text_place, text_length, TextReply}
use Rattle.book_contents.specs.CallContracts.{write_refusal, write_place, write_length, WriteReply}
use Rattle.fund_definitions.specs.declared.FundsReply.{FundsReply}
use Rattle.claims_variation.specs.Replies.{spread_refusal, spread_place, spread_level, spread_mean, spread_coefficient}
use Rattle.claims_variation.specs.Replies.{SpreadReply}
use Rattle.c_api_fields.specs.declared.VerdictFields.{VerdictFields}
use Rattle.c_api_fields.specs.declared.GroupFields.{GroupFields}
use Rattle.c_api_fields.specs.declared.ReportFields.{ReportFields}
use Rattle.c_api_fields.specs.declared.WriteFields.{WriteFields}
use Rattle.c_api_fields.specs.declared.FundsFields.{FundsFields}
use Rattle.c_api_fields.specs.declared.InForceFields.{InForceFields}
use Rattle.c_api_fields.specs.declared.SpreadFields.{SpreadFields}

-- a verdict: number and place of the refusal, and n
abbrev pub verdict_fields : Verdict → VerdictFields
verdict_fields v = record { refusal = refusal_of v; place = place_of v; n = count_of v }

-- the verdict of In force
abbrev pub in_force_fields : Verdict → InForceFields
in_force_fields v = record { refusal = refusal_of v; place = place_of v }

-- both funds' verdicts
abbrev pub funds_fields : FundsReply → FundsFields
funds_fields r = record { first = verdict_fields r.first; second = verdict_fields r.second }

-- Group's reply
abbrev pub group_fields : GroupReply → GroupFields
group_fields r = record { refusal = refusal_in r; place = place_in r; liability = liability_in r; n = count_in r }

-- the reply of Listing and of the report's two calls
abbrev pub text_fields : TextReply → ReportFields
text_fields r = record { refusal = text_refusal r; place = text_place r; length = text_length r }

-- the reply of Write and of Practice
abbrev pub write_fields : WriteReply → WriteFields
write_fields r = record { refusal = write_refusal r; place = write_place r; length = write_length r }

-- Spread's reply
abbrev pub spread_fields : SpreadReply → SpreadFields
spread_fields r =
    record {
      refusal = spread_refusal r;
      place = spread_place r;
      level = cond (spread_level r) 1 0;
      mean = spread_mean r;
      coefficient = spread_coefficient r;
    }
