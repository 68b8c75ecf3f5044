-- Which setting the words name that the program was started with.
use Rattle.std.specs.Prelude.{cond, List, ℕ, ◌-◌, leb, eqb, length, get_or}

-- no setting: the call refuses it with 14
abbrev pub no_setting : ℕ
no_setting = 8

-- one digit (from byte 48 on) names its setting; any other word names none
unfoldable pub setting_of : List ℕ → ℕ
setting_of word =
    cond (eqb (length word) 1) (cond (leb 48 (get_or word 0 0)) (get_or word 0 0 - 48) no_setting) no_setting

-- words: how many there are, the program's own name the first. No second word names the base; a third is one too many
unfoldable pub setting_named : ℕ → List ℕ → ℕ
setting_named words second = cond (leb words 1) 0 (cond (eqb words 2) (setting_of second) no_setting)
