-- Laws of authentication types and privilege levels.
use Rattle.std.specs.Prelude.{◌≡◌, ℕ, ◌<◌, ◌≤◌, Bool, true, false, ◌↔◌, [], ◌∷◌, get_or, if◌then◌else◌, Option, Some, None}
use Rattle.std.specs.declared.cmp.Ordering.{Ordering}
use Rattle.std.specs.declared.cmp.Ordering.TheVariants.{Less, Equal, Greater}
use mathlib.Core.Path.{refl, sym, ◌∙◌, ap}
use native.Mathlib.Omega.{arith}
use lib.Dec.{lit<, lit≤}
use Rattle.std.specs.Cmp.{nat_cmp_is}
use Rattle.std.proofs.lemmas.Cmp.{ranked}
use Rattle.std.proofs.lemmas.Option.{none-some}
use Rattle.base.specs.Choice.{◌=?◌}
use Rattle.base.specs.Field.{bits}
use Rattle.base.specs.Named.{named}
use Rattle.auth.specs.Auth.{auth_types, auth_type_of, auth_type_value, best_of, privileges, privilege_of, privilege_value, rank, strength}
use Rattle.auth.specs.declared.AuthType.{AuthType}
use Rattle.auth.specs.declared.AuthType.TheVariants as Kind
use Rattle.auth.specs.declared.PrivilegeLevel.{PrivilegeLevel}
use Rattle.auth.specs.declared.PrivilegeLevel.TheVariants.{Callback, User, Operator, Administrator, OemProperietary}
use Rattle.base.proofs.Named.{name_iff, unnamed}

infix 15 ◌weaker◌
-- a number names exactly the type whose number it is
pub auth_number_iff : (n : ℕ) (a : AuthType) → named auth_types n ≡ Some a ↔ auth_type_value a ≡ n
auth_number_iff = name_iff auth_type_value auth_types refl (elim [ Kind.None ↦ refl | Kind.MD2 ↦ refl | Kind.MD5 ↦ refl | Kind.Key ↦ refl ])

-- a byte names exactly the type whose number is its low nibble
pub auth_type_iff : (n : ℕ) (a : AuthType) → auth_type_of n ≡ Some a ↔ auth_type_value a ≡ bits 0 4 n
auth_type_iff n a = auth_number_iff (bits 0 4 n) a

pub no_auth_number : (n : ℕ) → (0 ≡ n → ⊥) → (1 ≡ n → ⊥) → (2 ≡ n → ⊥) → (4 ≡ n → ⊥) → named auth_types n ≡ None
no_auth_number n no_none no-md2 no-md5 no_key = unnamed auth_type_value auth_types auth_number_iff n (elim [ Kind.None ↦ no_none | Kind.MD2 ↦ no-md2 | Kind.MD5 ↦ no-md5 | Kind.Key ↦ no_key ])

pub nibble_iff : (n : ℕ) (l : PrivilegeLevel) → named privileges n ≡ Some l ↔ privilege_value l ≡ n
nibble_iff = name_iff privilege_value privileges refl (elim [ Callback ↦ refl | User ↦ refl | Operator ↦ refl | Administrator ↦ refl | OemProperietary ↦ refl ])

-- a byte names exactly the level whose number is its low nibble
pub privilege_iff : (n : ℕ) (l : PrivilegeLevel) → privilege_of n ≡ Some l ↔ privilege_value l ≡ bits 0 4 n
privilege_iff n l = nibble_iff (bits 0 4 n) l

pub no_privilege : (n : ℕ) → (1 ≡ n → ⊥) → (2 ≡ n → ⊥) → (3 ≡ n → ⊥) → (4 ≡ n → ⊥) → (5 ≡ n → ⊥) → named privileges n ≡ None
no_privilege n a b c d e = unnamed privilege_value privileges nibble_iff n (elim [ Callback ↦ a | User ↦ b | Operator ↦ c | Administrator ↦ d | OemProperietary ↦ e ])

-- the number of each is a byte, which names it

pub auth_again : (a : AuthType) → (auth_type_value a < 256) × (auth_type_of (auth_type_value a) ≡ Some a)
auth_again = elim [ Kind.None ↦ (lit< tt, refl) | Kind.MD2 ↦ (lit< tt, refl) | Kind.MD5 ↦ (lit< tt, refl) | Kind.Key ↦ (lit< tt, refl) ]

pub privilege_again : (l : PrivilegeLevel) → (privilege_value l < 256) × (privilege_of (privilege_value l) ≡ Some l)
privilege_again = elim [ Callback ↦ (lit< tt, refl) | User ↦ (lit< tt, refl) | Operator ↦ (lit< tt, refl) | Administrator ↦ (lit< tt, refl) | OemProperietary ↦ (lit< tt, refl) ]

-- The strength order.

-- the Rust's chain of comparisons, in its order ..
abbrev pub chain : AuthType → AuthType → Ordering
chain a b =
    if auth_type_value a =? auth_type_value b then Equal else
    if auth_type_value a =? auth_type_value Kind.None then Less else
    if auth_type_value b =? auth_type_value Kind.None then Greater else
    if auth_type_value a =? auth_type_value Kind.Key then Less else
    if auth_type_value b =? auth_type_value Kind.Key then Greater else
    if auth_type_value a =? auth_type_value Kind.MD2 then Less else Greater

-- .. gives what the ranks give, on all sixteen pairs
pub chain_is : (a b : AuthType) → chain a b ≡ strength a b
chain_is Kind.None = elim [ Kind.None ↦ refl | Kind.MD2 ↦ refl | Kind.MD5 ↦ refl | Kind.Key ↦ refl ]
chain_is Kind.MD2 = elim [ Kind.None ↦ refl | Kind.MD2 ↦ refl | Kind.MD5 ↦ refl | Kind.Key ↦ refl ]
chain_is Kind.MD5 = elim [ Kind.None ↦ refl | Kind.MD2 ↦ refl | Kind.MD5 ↦ refl | Kind.Key ↦ refl ]
chain_is Kind.Key = elim [ Kind.None ↦ refl | Kind.MD2 ↦ refl | Kind.MD5 ↦ refl | Kind.Key ↦ refl ]

-- weaker is a strict order ..
abbrev pub ◌weaker◌ : AuthType → AuthType → Type 0
a weaker b = strength a b ≡ Less

less : (a b : AuthType) → a weaker b ↔ rank a < rank b
less a b = (λ e. ranked (rank a) (rank b) Less (sym e), λ h. sym (nat_cmp_is (rank a) (rank b) Less h))

pub weaker_irreflexive : (a : AuthType) → a weaker a → ⊥
weaker_irreflexive a e = let h = (less a a).0 e in omega arith

pub weaker_transitive : (a b c : AuthType) → a weaker b → b weaker c → a weaker c
weaker_transitive a b c e f = let g = (less a b).0 e in let h = (less b c).0 f in (less a c).1 (omega arith)

-- .. with None < Key < MD2 < MD5
pub weakest_first : (Kind.None weaker Kind.Key) × (Kind.Key weaker Kind.MD2) × (Kind.MD2 weaker Kind.MD5)
weakest_first = (refl, refl, refl)

-- each is as strong as itself alone
pub equal_iff : (a b : AuthType) → strength a b ≡ Equal ↔ a ≡ b
equal_iff a b = (λ e. let same = ranked (rank a) (rank b) Equal (sym e) in cc (own a, own b), λ e. rw e (sym (nat_cmp_is (rank b) (rank b) Equal refl)))
  where
    -- what a rank names
    own : (a : AuthType) → get_or (Kind.None ∷ Kind.Key ∷ Kind.MD2 ∷ []) (rank a) Kind.MD5 ≡ a
    own = elim [ Kind.None ↦ refl | Kind.MD2 ↦ refl | Kind.MD5 ↦ refl | Kind.Key ↦ refl ]

-- the other way round
pub greater_iff : (a b : AuthType) → strength a b ≡ Greater ↔ b weaker a
greater_iff a b = (λ e. (less b a).1 (ranked (rank a) (rank b) Greater (sym e)), λ e. sym (nat_cmp_is (rank a) (rank b) Greater ((less b a).0 e)))

-- The strongest of those that are offered.

-- is a type among those
abbrev pub offered : Bool → Bool → Bool → Bool → AuthType → Bool
offered key md5 md2 plain Kind.Key = key
offered key md5 md2 plain Kind.MD5 = md5
offered key md5 md2 plain Kind.MD2 = md2
offered key md5 md2 plain Kind.None = plain

-- it is among them, and none of them is stronger
abbrev pub Strongest : Bool → Bool → Bool → Bool → AuthType → Type 0
Strongest key md5 md2 plain a = (offered key md5 md2 plain a ≡ true) × ((b : AuthType) → offered key md5 md2 plain b ≡ true → a weaker b → ⊥)

unlike : false ≡ true → ⊥
unlike e = let z : ◌≡◌ {A = ℕ} 0 1 = cc in omega arith

highest : (key md5 md2 plain : Bool) (a : AuthType) → best_of key md5 md2 plain ≡ Some a → (offered key md5 md2 plain a ≡ true) × ((b : AuthType) → offered key md5 md2 plain b ≡ true → rank b ≤ rank a)
highest key true md2 plain a e = let z : Kind.MD5 ≡ a = cc in rw (← z) (refl, elim [ Kind.None ↦ λ o. lit≤ tt | Kind.MD2 ↦ λ o. lit≤ tt | Kind.MD5 ↦ λ o. lit≤ tt | Kind.Key ↦ λ o. lit≤ tt ])
highest key false true plain a e = let z : Kind.MD2 ≡ a = cc in rw (← z) (refl, elim [ Kind.None ↦ λ o. lit≤ tt | Kind.MD2 ↦ λ o. lit≤ tt | Kind.MD5 ↦ λ o. absurd (unlike o) | Kind.Key ↦ λ o. lit≤ tt ])
highest true false false plain a e = let z : Kind.Key ≡ a = cc in rw (← z) (refl, elim [ Kind.None ↦ λ o. lit≤ tt | Kind.MD2 ↦ λ o. absurd (unlike o) | Kind.MD5 ↦ λ o. absurd (unlike o) | Kind.Key ↦ λ o. lit≤ tt ])
highest false false false true a e = let z : Kind.None ≡ a = cc in rw (← z) (refl, elim [ Kind.None ↦ λ o. lit≤ tt | Kind.MD2 ↦ λ o. absurd (unlike o) | Kind.MD5 ↦ λ o. absurd (unlike o) | Kind.Key ↦ λ o. absurd (unlike o) ])
highest false false false false a e = absurd (none-some a e)

-- There is none exactly where none is offered: "no type exactly when all four bits are clear".
pub best_none : (key md5 md2 plain : Bool) → best_of key md5 md2 plain ≡ None ↔ ((a : AuthType) → offered key md5 md2 plain a ≡ false)
best_none key md5 md2 plain = (go key md5 md2 plain, λ h. simp (h Kind.MD5, h Kind.MD2, h Kind.Key, h Kind.None))
  where
    go : (key md5 md2 plain : Bool) → best_of key md5 md2 plain ≡ None → (a : AuthType) → offered key md5 md2 plain a ≡ false
    go key true md2 plain e = absurd (none-some _ (sym e))
    go key false true plain e = absurd (none-some _ (sym e))
    go true false false plain e = absurd (none-some _ (sym e))
    go false false false true e = absurd (none-some _ (sym e))
    go false false false false e = elim [ Kind.None ↦ refl | Kind.MD2 ↦ refl | Kind.MD5 ↦ refl | Kind.Key ↦ refl ]

-- The best is exactly the strongest that is offered.
pub best_iff : (key md5 md2 plain : Bool) (a : AuthType) → best_of key md5 md2 plain ≡ Some a ↔ Strongest key md5 md2 plain a
best_iff key md5 md2 plain a = (is, λ s. go (best_of key md5 md2 plain) refl s)
  where
    is : best_of key md5 md2 plain ≡ Some a → Strongest key md5 md2 plain a
    is e = let (o, top) = highest key md5 md2 plain a e in (o, λ b p w. let h = top b p in let l = (less a b).0 w in omega arith)

    go : (o : Option AuthType) → best_of key md5 md2 plain ≡ o → Strongest key md5 md2 plain a → o ≡ Some a
    go None p s = absurd (unlike (sym ((best_none key md5 md2 plain).0 p a) ∙ s.0))
    go (Some b) p s = ap Some (same (strength a b) refl)
      where
        same : (r : Ordering) → strength a b ≡ r → b ≡ a
        same Less e = absurd (s.1 b (highest key md5 md2 plain b p).0 e)
        same Equal e = sym ((equal_iff a b).0 e)
        same Greater e =
            let g = (less b a).0 ((greater_iff a b).0 e) in
            let h = (highest key md5 md2 plain b p).1 a s.0 in
            absurd (omega arith)
