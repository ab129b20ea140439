-- Characters by name, as queries (RFC 9535 appendix A), normalized paths, patterns and JSON are
-- written with them.
use Rattle.std.specs.Prelude.{ℕ}

abbrev pub backspace : ℕ
backspace = 8

abbrev pub tab : ℕ
tab = 9

abbrev pub line_feed : ℕ
line_feed = 10

abbrev pub form_feed : ℕ
form_feed = 12

abbrev pub carriage_return : ℕ
carriage_return = 13

abbrev pub space : ℕ
space = 32

abbrev pub exclamation_mark : ℕ
exclamation_mark = 33

abbrev pub double_quote : ℕ
double_quote = 34

abbrev pub dollar : ℕ
dollar = 36

abbrev pub ampersand : ℕ
ampersand = 38

abbrev pub single_quote : ℕ
single_quote = 39

abbrev pub opening_parenthesis : ℕ
opening_parenthesis = 40

abbrev pub closing_parenthesis : ℕ
closing_parenthesis = 41

abbrev pub star : ℕ
star = 42

abbrev pub plus : ℕ
plus = 43

abbrev pub comma : ℕ
comma = 44

abbrev pub hyphen : ℕ
hyphen = 45

abbrev pub minus : ℕ
minus = 45

abbrev pub dot : ℕ
dot = 46

abbrev pub slash : ℕ
slash = 47

abbrev pub digit_zero : ℕ
digit_zero = 48

abbrev pub digit_one : ℕ
digit_one = 49

abbrev pub digit_five : ℕ
digit_five = 53

abbrev pub digit_seven : ℕ
digit_seven = 55

abbrev pub digit_eight : ℕ
digit_eight = 56

abbrev pub digit_nine : ℕ
digit_nine = 57

abbrev pub colon : ℕ
colon = 58

abbrev pub less_sign : ℕ
less_sign = 60

abbrev pub equals_sign : ℕ
equals_sign = 61

abbrev pub greater_sign : ℕ
greater_sign = 62

abbrev pub question_mark : ℕ
question_mark = 63

abbrev pub at_sign : ℕ
at_sign = 64

abbrev pub capital_a : ℕ
capital_a = 65

abbrev pub capital_c : ℕ
capital_c = 67

abbrev pub capital_d : ℕ
capital_d = 68

abbrev pub capital_e : ℕ
capital_e = 69

abbrev pub capital_l : ℕ
capital_l = 76

abbrev pub capital_m : ℕ
capital_m = 77

abbrev pub capital_n : ℕ
capital_n = 78

abbrev pub capital_p : ℕ
capital_p = 80

abbrev pub capital_s : ℕ
capital_s = 83

abbrev pub capital_z : ℕ
capital_z = 90

abbrev pub opening_bracket : ℕ
opening_bracket = 91

abbrev pub backslash : ℕ
backslash = 92

abbrev pub closing_bracket : ℕ
closing_bracket = 93

abbrev pub caret : ℕ
caret = 94

abbrev pub low_line : ℕ
low_line = 95

abbrev pub letter_a : ℕ
letter_a = 97

abbrev pub letter_b : ℕ
letter_b = 98

abbrev pub letter_c : ℕ
letter_c = 99

abbrev pub letter_d : ℕ
letter_d = 100

abbrev pub letter_e : ℕ
letter_e = 101

abbrev pub letter_f : ℕ
letter_f = 102

abbrev pub letter_j : ℕ
letter_j = 106

abbrev pub letter_k : ℕ
letter_k = 107

abbrev pub letter_n : ℕ
letter_n = 110

abbrev pub letter_p : ℕ
letter_p = 112

abbrev pub letter_r : ℕ
letter_r = 114

abbrev pub letter_t : ℕ
letter_t = 116

abbrev pub letter_u : ℕ
letter_u = 117

abbrev pub letter_z : ℕ
letter_z = 122

abbrev pub opening_brace : ℕ
opening_brace = 123

abbrev pub bar : ℕ
bar = 124

abbrev pub closing_brace : ℕ
closing_brace = 125
