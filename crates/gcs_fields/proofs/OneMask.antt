-- A text is that of one mask
use Rattle.std.proofs.Common.{◌≡◌, ◌≢◌, ℕ, ◌==◌, ◌||◌, List, [], ◌∷◌, ◌++◌, Bool, true, false, refl, sym, subst, ap, ap₂, ◌∙◌, append_assoc, append-nil, arith, true≢false}
use Rattle.std.proofs.lemmas.Bool.{or_parts, false≢true}
use Rattle.std.specs.List.{AllByRecursion}
use Rattle.gcs_fields.specs.Tree.{Name, any, key, Mask, none, item, is_name_byte, print_name, print_path, print_inner, texts_of, print, IsName, IsPath, AreItems, IsMask}

-- such a byte doesn't begin the text
abbrev After : (ℕ → Bool) → List ℕ → Type 0
After within [] = Unit {0}
After within (b ∷ bs) = within b ≡ false

-- bytes of paths, of items and of masks without brackets
abbrev in_path : ℕ → Bool
in_path b = is_name_byte b || (b == 47)

abbrev in_item : ℕ → Bool
in_item b = in_path b || (b == 40)

abbrev in_items : ℕ → Bool
in_items b = in_item b || (b == 44)

after_less : (less other : ℕ → Bool) (text : List ℕ) → After (λ b. less b || other b) text → After less text
after_less less other [] h = tt
after_less less other (b ∷ bs) h = (or_parts (less b) (other b) h).0

same_head : (x y : ℕ) (a b : List ℕ) → x ∷ a ≡ y ∷ b → x ≡ y
same_head x y a b e = cc

same_tail : (x y : ℕ) (a b : List ℕ) → x ∷ a ≡ y ∷ b → a ≡ b
same_tail x y a b e = cc

-- a key ends in front of the first byte that is none of a name
one_key : (a b r s : List ℕ) → AllByRecursion (λ x. is_name_byte x ≡ true) a → AllByRecursion (λ x. is_name_byte x ≡ true) b → After is_name_byte r → After is_name_byte s
    → a ++ r ≡ b ++ s → (a ≡ b) × (r ≡ s)
one_key [] [] r s in_a in_b after_r after_s e = (refl, e)
one_key [] (y ∷ b) r s in_a in_b after_r after_s e = absurd (false≢true (sym (subst (After is_name_byte) e after_r) ∙ in_b.0))
one_key (x ∷ a) [] r s in_a in_b after_r after_s e = absurd (false≢true (sym (subst (After is_name_byte) (sym e) after_s) ∙ in_a.0))
one_key (x ∷ a) (y ∷ b) r s in_a in_b after_r after_s e =
    let rest = one_key a b r s in_a.1 in_b.1 after_r after_s (same_tail x y (a ++ r) (b ++ s) e) in
    (ap₂ (λ h t. h ∷ t) (same_head x y (a ++ r) (b ++ s) e) rest.0, rest.1)

-- `*` begins no key
no_star : (bytes r s : List ℕ) → IsName (key bytes) → 42 ∷ r ≡ bytes ++ s → ⊥
no_star [] r s is_name e = omega (arith, is_name.0)
no_star (b ∷ bs) r s is_name e = false≢true (ap is_name_byte (same_head 42 b r (bs ++ s) e) ∙ is_name.1.0)

one_name : (n m : Name) (r s : List ℕ) → IsName n → IsName m → After is_name_byte r → After is_name_byte s → print_name n ++ r ≡ print_name m ++ s → (n ≡ m) × (r ≡ s)
one_name any any r s is_n is_m after_r after_s e = (refl, same_tail 42 42 r s e)
one_name any (key b) r s is_n is_m after_r after_s e = absurd (no_star b r s is_m e)
one_name (key a) any r s is_n is_m after_r after_s e = absurd (no_star a s r is_n (sym e))
one_name (key a) (key b) r s is_n is_m after_r after_s e =
    let same = one_key a b r s is_n.1 is_m.1 after_r after_s e in
    (ap key same.0, same.1)

no_slash : (r t : List ℕ) → After in_path r → r ≡ 47 ∷ t → ⊥
no_slash r t after_r e = true≢false (subst (After in_path) e after_r)

-- a path ends in front of the first byte that is neither of a name nor `/`
one_path : (p q : List Name) (r s : List ℕ) → IsPath p → IsPath q → After in_path r → After in_path s → print_path p ++ r ≡ print_path q ++ s → (p ≡ q) × (r ≡ s)
one_path [] q r s is_p is_q after_r after_s e = absurd (omega (arith, is_p.0))
one_path (n ∷ []) [] r s is_p is_q after_r after_s e = absurd (omega (arith, is_q.0))
one_path (n ∷ o ∷ p) [] r s is_p is_q after_r after_s e = absurd (omega (arith, is_q.0))
one_path (n ∷ []) (m ∷ []) r s is_p is_q after_r after_s e =
    let same = one_name n m r s is_p.1.0 is_q.1.0 (after_less is_name_byte (λ b. b == 47) r after_r) (after_less is_name_byte (λ b. b == 47) s after_s) e in
    (ap (λ x. x ∷ []) same.0, same.1)
one_path (n ∷ []) (m ∷ l ∷ q) r s is_p is_q after_r after_s e =
    let same = one_name n m r (47 ∷ (print_path (l ∷ q) ++ s)) is_p.1.0 is_q.1.0 (after_less is_name_byte (λ b. b == 47) r after_r) refl
    (e ∙ append_assoc (print_name m) (47 ∷ print_path (l ∷ q)) s) in
    absurd (no_slash r (print_path (l ∷ q) ++ s) after_r same.1)
one_path (n ∷ o ∷ p) (m ∷ []) r s is_p is_q after_r after_s e =
    let same = one_name n m (47 ∷ (print_path (o ∷ p) ++ r)) s is_p.1.0 is_q.1.0 refl (after_less is_name_byte (λ b. b == 47) s after_s)
    (sym (append_assoc (print_name n) (47 ∷ print_path (o ∷ p)) r) ∙ e) in
    absurd (no_slash s (print_path (o ∷ p) ++ r) after_s (sym same.1))
one_path (n ∷ o ∷ p) (m ∷ l ∷ q) r s is_p is_q after_r after_s e =
    let same = one_name n m (47 ∷ (print_path (o ∷ p) ++ r)) (47 ∷ (print_path (l ∷ q) ++ s)) is_p.1.0 is_q.1.0 refl refl
    (sym (append_assoc (print_name n) (47 ∷ print_path (o ∷ p)) r) ∙ e ∙ append_assoc (print_name m) (47 ∷ print_path (l ∷ q)) s) in
    let rest = one_path (o ∷ p) (l ∷ q) r s (omega arith, is_p.1.1) (omega arith, is_q.1.1) after_r after_s (same_tail 47 47 (print_path (o ∷ p) ++ r) (print_path (l ∷ q) ++ s) same.1) in
    (ap₂ (λ x xs. x ∷ xs) same.0 rest.0, rest.1)

-- what stands behind an item: the others, and what stands behind these
behind : Mask → List ℕ → List ℕ
behind none r = r
behind (item p i m) r = 44 ∷ (print (item p i m) ++ r)

print_item : (p : List Name) (i m : Mask) (r : List ℕ) → print (item p i m) ++ r ≡ print_path p ++ (print_inner (texts_of i) ++ behind m r)
unfolding behind
print_item p i none r = append_assoc (print_path p) (print_inner (texts_of i)) r
print_item p i (item q j m) r =
    append_assoc (print_path p ++ print_inner (texts_of i)) (44 ∷ print (item q j m)) r
    ∙ append_assoc (print_path p) (print_inner (texts_of i)) (44 ∷ (print (item q j m) ++ r))

after_item : (m : Mask) (r : List ℕ) → After in_items r → After in_item (behind m r)
unfolding behind
after_item none r h = after_less in_item (λ b. b == 44) r h
after_item (item p i m) r h = refl

after_path : (i : Mask) (r : List ℕ) → After in_item r → After in_path (print_inner (texts_of i) ++ r)
after_path none r h = after_less in_path (λ b. b == 40) r h
after_path (item p i m) r h = refl

-- a mask with this text in front of these bytes is the only one
abbrev IsOne : Mask → Type 0
IsOne a = (b : Mask) (r s : List ℕ) → a ≢ none → b ≢ none → AreItems a → AreItems b → After in_items r → After in_items s → print a ++ r ≡ print b ++ s → (a ≡ b) × (r ≡ s)

one_inner : (i j : Mask) (r s : List ℕ) → IsOne i → AreItems i → AreItems j → After in_item r → After in_item s
    → print_inner (texts_of i) ++ r ≡ print_inner (texts_of j) ++ s → (i ≡ j) × (r ≡ s)
one_inner none none r s one in_i in_j after_r after_s e = (refl, e)
one_inner none (item q j n) r s one in_i in_j after_r after_s e = absurd (true≢false (subst (After in_item) e after_r))
one_inner (item p i m) none r s one in_i in_j after_r after_s e = absurd (true≢false (subst (After in_item) (sym e) after_s))
one_inner (item p i m) (item q j n) r s one in_i in_j after_r after_s e =
    let a = item p i m in
    let b = item q j n in
    let inside = same_tail 40 40 ((print a ++ 41 ∷ []) ++ r) ((print b ++ 41 ∷ []) ++ s) e in
    let same = one b (41 ∷ r) (41 ∷ s) (λ e. cc) (λ e. cc) in_i in_j refl refl
    (sym (append_assoc (print a) (41 ∷ []) r) ∙ inside ∙ append_assoc (print b) (41 ∷ []) s) in
    (same.0, same_tail 41 41 r s same.1)

one_more : (m n : Mask) (r s : List ℕ) → IsOne m → AreItems m → AreItems n → After in_items r → After in_items s → behind m r ≡ behind n s → (m ≡ n) × (r ≡ s)
unfolding behind
one_more none none r s one in_m in_n after_r after_s e = (refl, e)
one_more none (item q j n) r s one in_m in_n after_r after_s e = absurd (true≢false (subst (After in_items) e after_r))
one_more (item p i m) none r s one in_m in_n after_r after_s e = absurd (true≢false (subst (After in_items) (sym e) after_s))
one_more (item p i m) (item q j n) r s one in_m in_n after_r after_s e =
    one (item q j n) r s (λ e. cc) (λ e. cc) in_m in_n after_r after_s (same_tail 44 44 (print (item p i m) ++ r) (print (item q j n) ++ s) e)

one_from : (a b : Mask) (r s : List ℕ) → a ≢ none → b ≢ none → AreItems a → AreItems b → After in_items r → After in_items s → print a ++ r ≡ print b ++ s → (a ≡ b) × (r ≡ s)
one_from none b r s some_a some_b in_a in_b after_r after_s e = absurd (some_a refl)
one_from (item p i m) none r s some_a some_b in_a in_b after_r after_s e = absurd (some_b refl)
one_from (item p i m) (item q j n) r s some_a some_b in_a in_b after_r after_s e =
    let paths = one_path p q (print_inner (texts_of i) ++ behind m r) (print_inner (texts_of j) ++ behind n s) in_a.0 in_b.0
    (after_path i (behind m r) (after_item m r after_r)) (after_path j (behind n s) (after_item n s after_s)) (sym (print_item p i m r) ∙ e ∙ print_item q j n s) in
    let inners = one_inner i j (behind m r) (behind n s) (one_from i) in_a.1 in_b.1 (after_item m r after_r) (after_item n s after_s) paths.1 in
    let mores = one_more m n r s (one_from m) in_a.2 in_b.2 after_r after_s inners.1 in
    (ap (λ x. item x i m) paths.0 ∙ ap (λ x. item q x m) inners.0 ∙ ap (item q j) mores.0, mores.1)

-- masks with the same text are the same
pub one_mask : (a b : Mask) → IsMask a → IsMask b → print a ≡ print b → a ≡ b
one_mask a b is_a is_b e = (one_from a b [] [] is_a.some is_b.some is_a.items is_b.items tt tt (append-nil (print a) ∙ e ∙ sym (append-nil (print b)))).0
