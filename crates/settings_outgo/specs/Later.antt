-- Settings that share their later years. A file of its own: it names `Setting`, whose ghost fields cite `Outgoings`.
use Rattle.std.specs.Prelude.{Bool, ◌&&◌, ◌≡◌, ◌<◌, ℕ, eqb}
use Rattle.settings_columns.specs.Columns.{projection_of}
use Rattle.settings_outgo.specs.Outgoings.{outgoings_of}
use Rattle.settings_outgo.specs.declared.LaterYears.{LaterYears}
use Rattle.settings_outgo.specs.declared.Setting.{Setting}

-- later years are those of others: their projection, their weights of costs and claims
abbrev pub same_later : LaterYears → LaterYears → Bool
same_later x y = eqb x.projection y.projection && eqb x.outgo.costs y.outgo.costs && eqb x.outgo.claims y.outgo.claims

-- x are the later years of the setting
pub record LaterOf (setting : ℕ) (x : LaterYears) : Type 0 where
  pub known : setting < 8
  pub projection_is : x.projection ≡ projection_of setting
  pub outgo_is : x.outgo ≡ (outgoings_of setting).later

abbrev pub later_of : Setting → LaterYears
later_of s = record { projection = s.projection; outgo = s.outgo.later }

-- the later years of a setting are those of another
abbrev pub later_as : Setting → Setting → Bool
later_as s t = same_later (later_of s) (later_of t)
