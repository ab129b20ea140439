-- How tightly expressions bind, and where parentheses stand (RFC 9535 section 2.3.5.1, Table 10).
use Rattle.std.specs.Prelude.{ℕ, Bool, true, false, nat_le, if◌then◌else◌, ◌++◌, codes}
use Rattle.jp_reading.specs.Texts.{Text}
use Rattle.jp_tree.specs.Tree.{ExprTree, any_of, all_of, negation, comparison, exists, call_test}

-- the precedences of `||`, of `&&` and of `!`, as the table numbers them
abbrev pub or_precedence : ℕ
or_precedence = 1

abbrev pub and_precedence : ℕ
and_precedence = 2

abbrev pub not_precedence : ℕ
not_precedence = 4

-- the precedence of an expression: of its operator, which is 3 for a relation; a test has the
-- highest
abbrev pub precedence : ExprTree → ℕ
precedence (any_of es) = or_precedence
precedence (all_of es) = and_precedence
precedence (comparison left op right) = 3
precedence (negation e) = not_precedence
precedence (exists q) = 5
precedence (call_test c) = 5

-- whether a part stands in parentheses in an expression of this precedence: unless it binds more
-- tightly
abbrev pub is_grouped : ℕ → ExprTree → Bool
is_grouped outer e = nat_le (precedence e) outer

-- whether an expression is a test without a `!`: a query, or a function expression
abbrev pub is_test : ExprTree → Bool
is_test (exists q) = true
is_test (call_test c) = true
is_test e = false

-- a text in parentheses, if it is to be
abbrev pub grouped : Bool → Text → Text
grouped is t = if is then codes "(" ++ (t ++ codes ")") else t
