-- docs/RULES.md, "Programs": the words of a report. Assumes nothing.
use Rattle.std.specs.Prelude.{List, [], ◌∷◌, ℕ}

-- `policy: `
abbrev pub policy_path_w : List ℕ
policy_path_w = 112 ∷ 111 ∷ 108 ∷ 105 ∷ 99 ∷ 121 ∷ 58 ∷ 32 ∷ []

-- `baseline: `
abbrev pub baseline_w : List ℕ
baseline_w = 98 ∷ 97 ∷ 115 ∷ 101 ∷ 108 ∷ 105 ∷ 110 ∷ 101 ∷ 58 ∷ 32 ∷ []

-- `candidate: `
abbrev pub candidate_w : List ℕ
candidate_w = 99 ∷ 97 ∷ 110 ∷ 100 ∷ 105 ∷ 100 ∷ 97 ∷ 116 ∷ 101 ∷ 58 ∷ 32 ∷ []

-- `, default allow` LF
abbrev pub default_allow_w : List ℕ
default_allow_w = 44 ∷ 32 ∷ 100 ∷ 101 ∷ 102 ∷ 97 ∷ 117 ∷ 108 ∷ 116 ∷ 32 ∷ 97 ∷ 108 ∷ 108 ∷ 111 ∷ 119 ∷ 10 ∷ []

-- `, default deny` LF
abbrev pub default_deny_w : List ℕ
default_deny_w = 44 ∷ 32 ∷ 100 ∷ 101 ∷ 102 ∷ 97 ∷ 117 ∷ 108 ∷ 116 ∷ 32 ∷ 100 ∷ 101 ∷ 110 ∷ 121 ∷ 10 ∷ []

-- `: the bytes end too soon`
abbrev pub ends_w : List ℕ
ends_w =
    58 ∷ 32 ∷ 116 ∷ 104 ∷ 101 ∷ 32 ∷ 98 ∷ 121 ∷ 116 ∷ 101 ∷ 115 ∷ 32 ∷ 101 ∷ 110 ∷ 100 ∷ 32 ∷ 116 ∷ 111 ∷ 111 ∷ 32 ∷ 115 ∷ 111 ∷ 111 ∷
    110 ∷ []

-- `: not a WebAssembly module`
abbrev pub magic_w : List ℕ
magic_w =
    58 ∷ 32 ∷ 110 ∷ 111 ∷ 116 ∷ 32 ∷ 97 ∷ 32 ∷ 87 ∷ 101 ∷ 98 ∷ 65 ∷ 115 ∷ 115 ∷ 101 ∷ 109 ∷ 98 ∷ 108 ∷ 121 ∷ 32 ∷ 109 ∷ 111 ∷ 100 ∷
    117 ∷ 108 ∷ 101 ∷ []

-- `: not well-formed UTF-8`
abbrev pub utf8_w : List ℕ
utf8_w = 58 ∷ 32 ∷ 110 ∷ 111 ∷ 116 ∷ 32 ∷ 119 ∷ 101 ∷ 108 ∷ 108 ∷ 45 ∷ 102 ∷ 111 ∷ 114 ∷ 109 ∷ 101 ∷ 100 ∷ 32 ∷ 85 ∷ 84 ∷ 70 ∷ 45 ∷ 56 ∷ []

-- `: an import of unknown kind`
abbrev pub kind_w : List ℕ
kind_w =
    58 ∷ 32 ∷ 97 ∷ 110 ∷ 32 ∷ 105 ∷ 109 ∷ 112 ∷ 111 ∷ 114 ∷ 116 ∷ 32 ∷ 111 ∷ 102 ∷ 32 ∷ 117 ∷ 110 ∷ 107 ∷ 110 ∷ 111 ∷ 119 ∷ 110 ∷ 32 ∷
    107 ∷ 105 ∷ 110 ∷ 100 ∷ []

-- `: a line that is no directive`
abbrev pub directive_w : List ℕ
directive_w =
    58 ∷ 32 ∷ 97 ∷ 32 ∷ 108 ∷ 105 ∷ 110 ∷ 101 ∷ 32 ∷ 116 ∷ 104 ∷ 97 ∷ 116 ∷ 32 ∷ 105 ∷ 115 ∷ 32 ∷ 110 ∷ 111 ∷ 32 ∷ 100 ∷ 105 ∷ 114 ∷
    101 ∷ 99 ∷ 116 ∷ 105 ∷ 118 ∷ 101 ∷ []

-- `: a default that is neither allow nor deny`
abbrev pub bad_default_w : List ℕ
bad_default_w =
    58 ∷ 32 ∷ 97 ∷ 32 ∷ 100 ∷ 101 ∷ 102 ∷ 97 ∷ 117 ∷ 108 ∷ 116 ∷ 32 ∷ 116 ∷ 104 ∷ 97 ∷ 116 ∷ 32 ∷ 105 ∷ 115 ∷ 32 ∷ 110 ∷ 101 ∷ 105 ∷
    116 ∷ 104 ∷ 101 ∷ 114 ∷ 32 ∷ 97 ∷ 108 ∷ 108 ∷ 111 ∷ 119 ∷ 32 ∷ 110 ∷ 111 ∷ 114 ∷ 32 ∷ 100 ∷ 101 ∷ 110 ∷ 121 ∷ []

-- `: no such domain`
abbrev pub domain_w : List ℕ
domain_w = 58 ∷ 32 ∷ 110 ∷ 111 ∷ 32 ∷ 115 ∷ 117 ∷ 99 ∷ 104 ∷ 32 ∷ 100 ∷ 111 ∷ 109 ∷ 97 ∷ 105 ∷ 110 ∷ []

-- `: more entries than are taken`
abbrev pub full_w : List ℕ
full_w =
    58 ∷ 32 ∷ 109 ∷ 111 ∷ 114 ∷ 101 ∷ 32 ∷ 101 ∷ 110 ∷ 116 ∷ 114 ∷ 105 ∷ 101 ∷ 115 ∷ 32 ∷ 116 ∷ 104 ∷ 97 ∷ 110 ∷ 32 ∷ 97 ∷ 114 ∷ 101 ∷
    32 ∷ 116 ∷ 97 ∷ 107 ∷ 101 ∷ 110 ∷ []

-- `: longer than 65,536 bytes`
abbrev pub long_w : List ℕ
long_w =
    58 ∷ 32 ∷ 108 ∷ 111 ∷ 110 ∷ 103 ∷ 101 ∷ 114 ∷ 32 ∷ 116 ∷ 104 ∷ 97 ∷ 110 ∷ 32 ∷ 54 ∷ 53 ∷ 44 ∷ 53 ∷ 51 ∷ 54 ∷ 32 ∷ 98 ∷ 121 ∷ 116 ∷
    101 ∷ 115 ∷ []

-- `: a number of more than ten bytes`
abbrev pub bytes_many_w : List ℕ
bytes_many_w =
    58 ∷ 32 ∷ 97 ∷ 32 ∷ 110 ∷ 117 ∷ 109 ∷ 98 ∷ 101 ∷ 114 ∷ 32 ∷ 111 ∷ 102 ∷ 32 ∷ 109 ∷ 111 ∷ 114 ∷ 101 ∷ 32 ∷ 116 ∷ 104 ∷ 97 ∷ 110 ∷
    32 ∷ 116 ∷ 101 ∷ 110 ∷ 32 ∷ 98 ∷ 121 ∷ 116 ∷ 101 ∷ 115 ∷ []

-- `: a number whose tenth byte is too large`
abbrev pub tenth_w : List ℕ
tenth_w =
    58 ∷ 32 ∷ 97 ∷ 32 ∷ 110 ∷ 117 ∷ 109 ∷ 98 ∷ 101 ∷ 114 ∷ 32 ∷ 119 ∷ 104 ∷ 111 ∷ 115 ∷ 101 ∷ 32 ∷ 116 ∷ 101 ∷ 110 ∷ 116 ∷ 104 ∷ 32 ∷
    98 ∷ 121 ∷ 116 ∷ 101 ∷ 32 ∷ 105 ∷ 115 ∷ 32 ∷ 116 ∷ 111 ∷ 111 ∷ 32 ∷ 108 ∷ 97 ∷ 114 ∷ 103 ∷ 101 ∷ []

-- `: a number above 4,294,967,295`
abbrev pub above_w : List ℕ
above_w =
    58 ∷ 32 ∷ 97 ∷ 32 ∷ 110 ∷ 117 ∷ 109 ∷ 98 ∷ 101 ∷ 114 ∷ 32 ∷ 97 ∷ 98 ∷ 111 ∷ 118 ∷ 101 ∷ 32 ∷ 52 ∷ 44 ∷ 50 ∷ 57 ∷ 52 ∷ 44 ∷ 57 ∷ 54 ∷
    55 ∷ 44 ∷ 50 ∷ 57 ∷ 53 ∷ []

-- `  bytes `
abbrev pub bytes_w : List ℕ
bytes_w = 32 ∷ 32 ∷ 98 ∷ 121 ∷ 116 ∷ 101 ∷ 115 ∷ 32 ∷ []

-- `, sections `
abbrev pub sections_w : List ℕ
sections_w = 44 ∷ 32 ∷ 115 ∷ 101 ∷ 99 ∷ 116 ∷ 105 ∷ 111 ∷ 110 ∷ 115 ∷ 32 ∷ []

-- `, imports `
abbrev pub imports_w : List ℕ
imports_w = 44 ∷ 32 ∷ 105 ∷ 109 ∷ 112 ∷ 111 ∷ 114 ∷ 116 ∷ 115 ∷ 32 ∷ []

-- `, exports `
abbrev pub exports_w : List ℕ
exports_w = 44 ∷ 32 ∷ 101 ∷ 120 ∷ 112 ∷ 111 ∷ 114 ∷ 116 ∷ 115 ∷ 32 ∷ []

-- `not `
abbrev pub not_w : List ℕ
not_w = 110 ∷ 111 ∷ 116 ∷ 32 ∷ []

-- `required`
abbrev pub required_w : List ℕ
required_w = 114 ∷ 101 ∷ 113 ∷ 117 ∷ 105 ∷ 114 ∷ 101 ∷ 100 ∷ []

-- `allowed`
abbrev pub allowed_w : List ℕ
allowed_w = 97 ∷ 108 ∷ 108 ∷ 111 ∷ 119 ∷ 101 ∷ 100 ∷ []

-- `, violation`
abbrev pub violation_w : List ℕ
violation_w = 44 ∷ 32 ∷ 118 ∷ 105 ∷ 111 ∷ 108 ∷ 97 ∷ 116 ∷ 105 ∷ 111 ∷ 110 ∷ []

-- `compliant` LF
abbrev pub compliant_w : List ℕ
compliant_w = 99 ∷ 111 ∷ 109 ∷ 112 ∷ 108 ∷ 105 ∷ 97 ∷ 110 ∷ 116 ∷ 10 ∷ []

-- `not compliant:`
abbrev pub not_compliant_w : List ℕ
not_compliant_w = 110 ∷ 111 ∷ 116 ∷ 32 ∷ 99 ∷ 111 ∷ 109 ∷ 112 ∷ 108 ∷ 105 ∷ 97 ∷ 110 ∷ 116 ∷ 58 ∷ []

-- ` is not allowed: imports `
abbrev pub not_allowed_w : List ℕ
not_allowed_w =
    32 ∷ 105 ∷ 115 ∷ 32 ∷ 110 ∷ 111 ∷ 116 ∷ 32 ∷ 97 ∷ 108 ∷ 108 ∷ 111 ∷ 119 ∷ 101 ∷ 100 ∷ 58 ∷ 32 ∷ 105 ∷ 109 ∷ 112 ∷ 111 ∷ 114 ∷ 116 ∷
    115 ∷ 32 ∷ []

-- ` from `
abbrev pub from_w : List ℕ
from_w = 32 ∷ 102 ∷ 114 ∷ 111 ∷ 109 ∷ 32 ∷ []

-- `the candidate can stand in for the baseline` LF
abbrev pub stands_w : List ℕ
stands_w =
    116 ∷ 104 ∷ 101 ∷ 32 ∷ 99 ∷ 97 ∷ 110 ∷ 100 ∷ 105 ∷ 100 ∷ 97 ∷ 116 ∷ 101 ∷ 32 ∷ 99 ∷ 97 ∷ 110 ∷ 32 ∷ 115 ∷ 116 ∷ 97 ∷ 110 ∷ 100 ∷
    32 ∷ 105 ∷ 110 ∷ 32 ∷ 102 ∷ 111 ∷ 114 ∷ 32 ∷ 116 ∷ 104 ∷ 101 ∷ 32 ∷ 98 ∷ 97 ∷ 115 ∷ 101 ∷ 108 ∷ 105 ∷ 110 ∷ 101 ∷ 10 ∷ []

-- `the candidate cannot stand in for the baseline` LF
abbrev pub stands_not_w : List ℕ
stands_not_w =
    116 ∷ 104 ∷ 101 ∷ 32 ∷ 99 ∷ 97 ∷ 110 ∷ 100 ∷ 105 ∷ 100 ∷ 97 ∷ 116 ∷ 101 ∷ 32 ∷ 99 ∷ 97 ∷ 110 ∷ 110 ∷ 111 ∷ 116 ∷ 32 ∷ 115 ∷ 116 ∷
    97 ∷ 110 ∷ 100 ∷ 32 ∷ 105 ∷ 110 ∷ 32 ∷ 102 ∷ 111 ∷ 114 ∷ 32 ∷ 116 ∷ 104 ∷ 101 ∷ 32 ∷ 98 ∷ 97 ∷ 115 ∷ 101 ∷ 108 ∷ 105 ∷ 110 ∷ 101 ∷
    10 ∷ []

-- `verdict: pass` LF
abbrev pub pass_w : List ℕ
pass_w = 118 ∷ 101 ∷ 114 ∷ 100 ∷ 105 ∷ 99 ∷ 116 ∷ 58 ∷ 32 ∷ 112 ∷ 97 ∷ 115 ∷ 115 ∷ 10 ∷ []

-- `verdict: fail, no stand-in` LF
abbrev pub no_stand_w : List ℕ
no_stand_w =
    118 ∷ 101 ∷ 114 ∷ 100 ∷ 105 ∷ 99 ∷ 116 ∷ 58 ∷ 32 ∷ 102 ∷ 97 ∷ 105 ∷ 108 ∷ 44 ∷ 32 ∷ 110 ∷ 111 ∷ 32 ∷ 115 ∷ 116 ∷ 97 ∷ 110 ∷ 100 ∷
    45 ∷ 105 ∷ 110 ∷ 10 ∷ []

-- `verdict: fail, not compliant` LF
abbrev pub no_compliant_w : List ℕ
no_compliant_w =
    118 ∷ 101 ∷ 114 ∷ 100 ∷ 105 ∷ 99 ∷ 116 ∷ 58 ∷ 32 ∷ 102 ∷ 97 ∷ 105 ∷ 108 ∷ 44 ∷ 32 ∷ 110 ∷ 111 ∷ 116 ∷ 32 ∷ 99 ∷ 111 ∷ 109 ∷ 112 ∷
    108 ∷ 105 ∷ 97 ∷ 110 ∷ 116 ∷ 10 ∷ []

-- `verdict: fail, not compliant, no stand-in` LF
abbrev pub neither_w : List ℕ
neither_w =
    118 ∷ 101 ∷ 114 ∷ 100 ∷ 105 ∷ 99 ∷ 116 ∷ 58 ∷ 32 ∷ 102 ∷ 97 ∷ 105 ∷ 108 ∷ 44 ∷ 32 ∷ 110 ∷ 111 ∷ 116 ∷ 32 ∷ 99 ∷ 111 ∷ 109 ∷ 112 ∷
    108 ∷ 105 ∷ 97 ∷ 110 ∷ 116 ∷ 44 ∷ 32 ∷ 110 ∷ 111 ∷ 32 ∷ 115 ∷ 116 ∷ 97 ∷ 110 ∷ 100 ∷ 45 ∷ 105 ∷ 110 ∷ 10 ∷ []

-- `verdict: none, `
abbrev pub none_w : List ℕ
none_w = 118 ∷ 101 ∷ 114 ∷ 100 ∷ 105 ∷ 99 ∷ 116 ∷ 58 ∷ 32 ∷ 110 ∷ 111 ∷ 110 ∷ 101 ∷ 44 ∷ 32 ∷ []

-- `policy `
abbrev pub of_policy_w : List ℕ
of_policy_w = 112 ∷ 111 ∷ 108 ∷ 105 ∷ 99 ∷ 121 ∷ 32 ∷ []

-- `baseline `
abbrev pub of_baseline_w : List ℕ
of_baseline_w = 98 ∷ 97 ∷ 115 ∷ 101 ∷ 108 ∷ 105 ∷ 110 ∷ 101 ∷ 32 ∷ []

-- `comparison `
abbrev pub of_comparison_w : List ℕ
of_comparison_w = 99 ∷ 111 ∷ 109 ∷ 112 ∷ 97 ∷ 114 ∷ 105 ∷ 115 ∷ 111 ∷ 110 ∷ 32 ∷ []

-- `not readable` LF
abbrev pub unread_w : List ℕ
unread_w = 110 ∷ 111 ∷ 116 ∷ 32 ∷ 114 ∷ 101 ∷ 97 ∷ 100 ∷ 97 ∷ 98 ∷ 108 ∷ 101 ∷ 10 ∷ []

-- `verdict: none, no room for the report` LF
abbrev pub no_room_w : List ℕ
no_room_w =
    118 ∷ 101 ∷ 114 ∷ 100 ∷ 105 ∷ 99 ∷ 116 ∷ 58 ∷ 32 ∷ 110 ∷ 111 ∷ 110 ∷ 101 ∷ 44 ∷ 32 ∷ 110 ∷ 111 ∷ 32 ∷ 114 ∷ 111 ∷ 111 ∷ 109 ∷ 32 ∷
    102 ∷ 111 ∷ 114 ∷ 32 ∷ 116 ∷ 104 ∷ 101 ∷ 32 ∷ 114 ∷ 101 ∷ 112 ∷ 111 ∷ 114 ∷ 116 ∷ 10 ∷ []

-- `, offset `
abbrev pub offset_w : List ℕ
offset_w = 44 ∷ 32 ∷ 111 ∷ 102 ∷ 102 ∷ 115 ∷ 101 ∷ 116 ∷ 32 ∷ []
