-- Reading a compact text returns the JSON that was written.
use Rattle.std.proofs.Common.{◌≡◌, ◌≤◌, ◌<◌, ◌^◌, ℕ, suc, max, List, [], Bool, true, false, ◌&&◌, nat_lt, Some, option_map, refl, sym, ap, ap₂, ◌∙◌, arith, append-nil}
use Rattle.std.proofs.lemmas.Bool.Decides.{nat_tests}
use Rattle.std.specs.Ordering.{nat_cmp, match_ordering}
use Rattle.std.specs.declared.cmp.Ordering.{Ordering}
use Rattle.std.specs.declared.cmp.Ordering.TheVariants.{Less, Equal, Greater}
use Rattle.std.specs.Cmp.Lexicographic.{slice_cmp}
use Rattle.std.proofs.lemmas.Bool.{and_parts}
use Rattle.json.proofs.Printed.Decimals.{IsNumber-decimal}
use Rattle.json.proofs.Printed.Tokens.{tokens-print}
use Rattle.json.proofs.Printed.Trees.{value-json_tokens, ArePrintable-json_tokens}
use Rattle.json.specs.Json as json
use Rattle.json.specs.Lex.{tokens}
use Rattle.json.specs.Tree as tree
use Rattle.land_wire_json.specs.Texts.Exact.{is_key_after, are_keys_after, is_exact, are_exact, has_increasing_keys}
use Rattle.serde_json.proofs.Numbers.{number_of-decimal}
use Rattle.serde_json.proofs.Texts.{print-outline}
use Rattle.serde_json.specs.Data.{unsigned, negative, float, Data, null, boolean, number, string, array, object, Items, no_items, item, Members, no_members, member, put, depth, items_depth, members_depth}
use Rattle.serde_json.specs.Read.{read, max_depth, of_json, of_items, of_members}
use Rattle.serde_json.specs.Written.{compact_text, outline, items_outline, members_outline}

below : (n : ℕ) → nat_lt n (2 ^ 64) ≡ true → n < 2 ^ 64
below n e = grind (arith, nat_tests)

-- ---- increasing keys

abbrev joined : Members → Members → Members
joined no_members ms = ms
joined (member k d rest) ms = member k d (joined rest ms)

joined-member : (found ms : Members) (k : List ℕ) (d : Data) → joined (joined found (member k d no_members)) ms ≡ joined found (member k d ms)
joined-member no_members ms k d = refl
joined-member (member l e rest) ms k d = ap (member l e) (joined-member rest ms k d)

joined_none : (found : Members) → found ≡ joined found no_members
joined_none no_members = refl
joined_none (member l e rest) = ap (member l e) (joined_none rest)

-- the key comes after each of these keys
abbrev after_all : List ℕ → Members → Bool
after_all k no_members = true
after_all k (member l e ms) = is_key_after k l && after_all k ms

-- each key comes after each of those
abbrev come_after : Members → Members → Bool
come_after no_members found = true
come_after (member k d ms) found = after_all k found && come_after ms found

after_none : (ms : Members) → come_after ms no_members ≡ true
after_none no_members = refl
after_none (member k d ms) = after_none ms

after_joined : (l : List ℕ) (found : Members) (k : List ℕ) (d : Data) → after_all l found ≡ true → is_key_after l k ≡ true → after_all l (joined found (member k d no_members)) ≡ true
after_joined l no_members k d e f = rw f refl
after_joined l (member m x rest) k d e f =
    let p = and_parts (is_key_after l m) (after_all l rest) e in
    rw (p.0, after_joined l rest k d p.1 f) refl

come_after_joined : (ms found : Members) (k : List ℕ) (d : Data) → come_after ms found ≡ true → are_keys_after k ms ≡ true → come_after ms (joined found (member k d no_members)) ≡ true
come_after_joined no_members found k d e f = refl
come_after_joined (member l x ms) found k d e f =
    let p = and_parts (after_all l found) (come_after ms found) e in
    let q = and_parts (is_key_after l k) (are_keys_after k ms) f in
    rw (after_joined l found k d p.0 q.0, come_after_joined ms found k d p.1 q.1) refl

goes_last : (o : Ordering) (a b c : Members) → match_ordering o false false true ≡ true → match_ordering o a b c ≡ c
goes_last Less a b c e = cc
goes_last Equal a b c e = cc
goes_last Greater a b c e = refl

put_last : (k : List ℕ) (d : Data) (found : Members) → after_all k found ≡ true → put k d found ≡ joined found (member k d no_members)
put_last k d no_members e = refl
put_last k d (member l x rest) e =
    let p = and_parts (is_key_after k l) (after_all k rest) e in
    goes_last (slice_cmp nat_cmp k l) _ _ _ p.0 ∙ ap (member l x) (put_last k d rest p.1)

-- ---- reading what was written

mutual
  of_outline : (d : Data) → is_exact d ≡ true → of_json (outline d) ≡ Some d
  of_outline null e = refl
  of_outline (boolean b) e = refl
  of_outline (number (unsigned n)) e = ap (option_map number) (number_of-decimal n (below n e))
  of_outline (number (negative z)) e = cc
  of_outline (number (float x)) e = cc
  of_outline (string s) e = refl
  of_outline (array ds) e = ap (option_map array) (of_items_outline ds e)
  of_outline (object ms) e = ap (option_map object) (of_members_outline ms no_members e (after_none ms))

  of_items_outline : (ds : Items) → are_exact ds ≡ true → of_items (items_outline ds) ≡ Some ds
  of_items_outline no_items e = refl
  of_items_outline (item d ds) e =
      let p = and_parts (is_exact d) (are_exact ds) e in
      rw (of_outline d p.0, of_items_outline ds p.1) refl

  of_members_outline : (ms found : Members) → has_increasing_keys ms ≡ true → come_after ms found ≡ true → of_members (members_outline ms) found ≡ Some (joined found ms)
  of_members_outline no_members found e f = ap Some (joined_none found)
  of_members_outline (member k d ms) found e f =
      let p = and_parts (is_exact d && are_keys_after k ms) (has_increasing_keys ms) e in
      let q = and_parts (is_exact d) (are_keys_after k ms) p.0 in
      let r = and_parts (after_all k found) (come_after ms found) f in
      rw (of_outline d q.0, put_last k d found r.0)
      (of_members_outline ms (joined found (member k d no_members)) p.1 (come_after_joined ms found k d r.1 q.1)
      ∙ ap Some (joined-member found ms k d))

mutual
  has_numbers : (d : Data) → is_exact d ≡ true → tree.HasNumbers (outline d)
  has_numbers null e = tt
  has_numbers (boolean b) e = tt
  has_numbers (number (unsigned n)) e = IsNumber-decimal n (below n e)
  has_numbers (number (negative z)) e = absurd cc
  has_numbers (number (float x)) e = absurd cc
  has_numbers (string s) e = tt
  has_numbers (array ds) e = items_have_numbers ds e
  has_numbers (object ms) e = members_have_numbers ms e

  items_have_numbers : (ds : Items) → are_exact ds ≡ true → tree.ItemsHaveNumbers (items_outline ds)
  items_have_numbers no_items e = tt
  items_have_numbers (item d ds) e = let p = and_parts (is_exact d) (are_exact ds) e in (has_numbers d p.0, items_have_numbers ds p.1)

  members_have_numbers : (ms : Members) → has_increasing_keys ms ≡ true → tree.MembersHaveNumbers (members_outline ms)
  members_have_numbers no_members e = tt
  members_have_numbers (member k d ms) e =
      let p = and_parts (is_exact d && are_keys_after k ms) (has_increasing_keys ms) e in
      let q = and_parts (is_exact d) (are_keys_after k ms) p.0 in
      (has_numbers d q.0, members_have_numbers ms p.1)

mutual
  depth-outline : (d : Data) → tree.depth (outline d) ≡ depth d
  depth-outline null = refl
  depth-outline (boolean b) = refl
  depth-outline (number n) = refl
  depth-outline (string s) = refl
  depth-outline (array ds) = ap suc (items_depth-outline ds)
  depth-outline (object ms) = ap suc (members_depth-outline ms)

  items_depth-outline : (ds : Items) → tree.items_depth (items_outline ds) ≡ items_depth ds
  items_depth-outline no_items = refl
  items_depth-outline (item d ds) = ap₂ max (depth-outline d) (items_depth-outline ds)

  members_depth-outline : (ms : Members) → tree.members_depth (members_outline ms) ≡ members_depth ms
  members_depth-outline no_members = refl
  members_depth-outline (member k d ms) = ap₂ max (depth-outline d) (members_depth-outline ms)

pub reads_compact : (d : Data) → is_exact d ≡ true → depth d ≤ max_depth → read (compact_text d) ≡ Some d
reads_compact d e shallow =
    let written = ap tokens (sym (print-outline d)) ∙ tokens-print (tree.json_tokens (outline d)) (ArePrintable-json_tokens (outline d) (has_numbers d e)) in
    let fits : tree.depth (outline d) ≤ max_depth = omega (arith, depth-outline d) in
    let value = ap (json.value max_depth) (written ∙ sym (append-nil (tree.json_tokens (outline d)))) ∙ value-json_tokens (outline d) max_depth [] fits in
    rw value (of_outline d e)
