-- The route table agrees with the plain rule.
use Rattle.std.proofs.Common.{◌≡◌, ◌+◌, ℕ, List, [], ◌∷◌, ◌++◌, length, drop, Option, Some, None, refl, ap, ◌∙◌, arith, true, false, cond, Bool, not, ◌==◌, ◌&&◌, codes, bytes_eq}
use Rattle.std.proofs.lemmas.Bool.Decides.{nat_tests}
use Rattle.land_core.specs.declared.kind.Kind.{Kind}
use Rattle.land_core.specs.declared.kind.Kind.TheVariants as kind
use Rattle.land_wire.proofs.ActNames.{no_act}
use Rattle.land_wire.proofs.RouteLemmas.{Groups, last_param, one_step, part_or_word, seek_by_words, seek_end, seek_none, spread}
use Rattle.land_wire.specs.Routes.{Resource, without_prefix, before_slash, from_slash, is_empty, is_segment, list_path, resource_of_act, resource_below_slash, resource_of_suffix, sheet, resource_below_list, view, if_matched}
use Rattle.land_wire.specs.Routes.Table.{AreBytes, RoutesCorrectly, resource_of_match}
use Rattle.land_wire.specs.declared.routes.table.Endpoint.{Endpoint}
use Rattle.land_wire.specs.declared.routes.table.Endpoint.TheVariants as to
use Rattle.matchit.specs.Router.{RouteOf}
use Rattle.matchit.specs.Rows.{RowsOf}
use Rattle.matchit.specs.Seek.{seek, step}

abbrev Row : Type 0
Row = RouteOf Endpoint

abbrev route : List ℕ → List ℕ → List (ℕ × ℕ) → Endpoint → Row
route pattern text names goal = record { pattern = pattern; text = text; names = names; value = goal }

abbrev list_row : Kind → Row
list_row k = route (list_path k) (list_path k) [] (to.List k)

abbrev view_row : Kind → Row
view_row k = route (list_path k ++ 47 ∷ 256 ∷ []) (list_path k ++ codes "/{number}") ((length (list_path k ++ codes "/{"), length (list_path k ++ codes "/{number")) ∷ []) (to.View k)

abbrev sheet_row : Row
sheet_row = route (codes "/units/" ++ 256 ∷ codes "/sheet") (codes "/units/{number}/sheet") ((8, 14) ∷ []) to.Sheet

abbrev act_row : Row
act_row = route (codes "/acts/" ++ 256 ∷ []) (codes "/acts/{act}") ((7, 10) ∷ []) to.Act

abbrev below : Kind → RowsOf Row
below k = (47 ∷ 256 ∷ [], view_row k) ∷ ([], list_row k) ∷ []

abbrev below_unit : RowsOf Row
below_unit = (47 ∷ 256 ∷ codes "/sheet", sheet_row) ∷ below kind.Unit

abbrev pub groups : Groups Row
groups =
    (codes "/acts/", (256 ∷ [], act_row) ∷ []) ∷ (list_path kind.Mutation, below kind.Mutation) ∷ (list_path kind.Parcel, below kind.Parcel)
    ∷ (list_path kind.Party, below kind.Party) ∷ (list_path kind.Rrr, below kind.Rrr) ∷ (list_path kind.Source, below kind.Source)
    ∷ (list_path kind.Unit, below_unit) ∷ []

-- ---- the bytes after a word

pub same_byte : (x b : ℕ) → (x == b) ≡ true → b ≡ x
same_byte x b e = grind (arith, nat_tests)

pub after_is : (w p rest : List ℕ) → without_prefix w p ≡ Some rest → p ≡ w ++ rest
after_is [] p rest e = cc
after_is (x ∷ w) [] rest e = cc
after_is (x ∷ w) (b ∷ p) rest e = by (x == b) refl e (λ h. after_is w p rest h)
  where
    by : (v : Bool) → (x == b) ≡ v → cond v (without_prefix w p) None ≡ Some rest → (without_prefix w p ≡ Some rest → p ≡ w ++ rest) → b ∷ p ≡ x ∷ (w ++ rest)
    by true same h onward = let t = onward h in let s = same_byte x b same in cc
    by false same h onward = cc

bytes_after : (w rest : List ℕ) → AreBytes (w ++ rest) → AreBytes rest
bytes_after [] rest h = h
bytes_after (x ∷ w) rest h = bytes_after w rest h.1

-- the same test on both sides
branch : (path : List ℕ) (o : Option (List ℕ)) (f : List ℕ → Option Row) (g : List ℕ → Option Resource) (x : Option Row) (y : Option Resource)
    → ((rest : List ℕ) → o ≡ Some rest → resource_of_match path (f rest) ≡ g rest) → resource_of_match path x ≡ y
    → resource_of_match path (if_matched o f x) ≡ if_matched o g y
branch path None f g x y here other = other
branch path (Some rest) f g x y here other = here rest refl

-- ---- below a word

act_named : (path rest : List ℕ) → path ≡ codes "/acts/" ++ rest → AreBytes rest → resource_of_match path (seek 0 ((256 ∷ [], act_row) ∷ []) rest) ≡ resource_of_act rest
act_named path rest e bytes = rw (last_param Row act_row rest bytes, e) (by (is_segment rest) refl)
  where
    by : (v : Bool) → is_segment rest ≡ v → resource_of_match (codes "/acts/" ++ rest) (cond v (Some act_row) None) ≡ resource_of_act rest
    by true part = refl
    by false part = rw (no_act rest part) refl

kind_named : (path rest : List ℕ) (k : Kind) → ((part : List ℕ) → resource_of_suffix k part ≡ None) → ((part : List ℕ) → rest ≡ 47 ∷ part → drop (length (list_path k) + 1) path ≡ part)
    → AreBytes rest → resource_of_match path (seek 0 (below k) rest) ≡ resource_below_list k rest
kind_named path [] k others found bytes = ap (resource_of_match path) (seek_end Row (below k))
kind_named path (b ∷ q) k others found bytes = ap (resource_of_match path) (one_step Row b q (below k) refl refl) ∙ by (47 == b) refl
  where
    part : (v : Bool) → drop (length (list_path k) + 1) path ≡ q → resource_of_match path (cond v (Some (view_row k)) None) ≡ cond v (Some (view k q)) None
    part true e = ap (λ p. Some (view k p)) e
    part false e = refl

    by : (v : Bool) → (47 == b) ≡ v → resource_of_match path (seek 0 (cond v ((256 ∷ [], view_row k) ∷ []) []) q) ≡ cond v (resource_below_slash k q) None
    by true same = let s = same_byte 47 b same in rw (last_param Row (view_row k) q bytes.1, others q) (part (is_segment q) (found q (ap (λ c. c ∷ q) s)))
    by false same = ap (resource_of_match path) (seek_none Row 0 q)

step_unit : (b : ℕ) → step b below_unit ≡ cond (47 == b) ((256 ∷ codes "/sheet", sheet_row) ∷ (256 ∷ [], view_row kind.Unit) ∷ []) []
step_unit b = by (47 == b)
  where
    by : (v : Bool)
        → cond {A = RowsOf Row} v ((256 ∷ codes "/sheet", sheet_row) ∷ cond {A = RowsOf Row} v ((256 ∷ [], view_row kind.Unit) ∷ []) []) (cond {A = RowsOf Row} v ((256 ∷ [], view_row kind.Unit) ∷ []) [])
        ≡ cond {A = RowsOf Row} v ((256 ∷ codes "/sheet", sheet_row) ∷ (256 ∷ [], view_row kind.Unit) ∷ []) []
    by true = refl
    by false = refl

unit_named : (path rest : List ℕ) → path ≡ codes "/units" ++ rest → AreBytes rest → resource_of_match path (seek 0 below_unit rest) ≡ resource_below_list kind.Unit rest
unit_named path [] e bytes = ap (resource_of_match path) (seek_end Row below_unit)
unit_named path (b ∷ q) e bytes = ap (resource_of_match path) (one_step Row b q below_unit refl refl ∙ ap (λ r. seek 0 r q) (step_unit b)) ∙ by (47 == b) refl
  where
    part : (v u : Bool) → drop 7 path ≡ q
        → resource_of_match path (cond v (Some (view_row kind.Unit)) (cond u (Some sheet_row) None)) ≡ cond v (Some (view kind.Unit q)) (cond u (Some (sheet (before_slash q))) None)
    part true u h = ap (λ p. Some (view kind.Unit p)) h
    part false true h = ap (λ p. Some (sheet (before_slash p))) h
    part false false h = refl

    by : (v : Bool) → (47 == b) ≡ v
        → resource_of_match path (seek 0 (cond v ((256 ∷ codes "/sheet", sheet_row) ∷ (256 ∷ [], view_row kind.Unit) ∷ []) []) q) ≡ cond v (resource_below_slash kind.Unit q) None
    by true same =
        let s = same_byte 47 b same in
        rw (part_or_word Row sheet_row (view_row kind.Unit) q bytes.1)
        (part (is_segment q) (not (is_empty (before_slash q)) && bytes_eq (from_slash q) (codes "/sheet")) (rw e refl))
    by false same = ap (resource_of_match path) (seek_none Row 0 q)

pub finds : RoutesCorrectly (spread groups)
finds path bytes =
    ap (resource_of_match path) (seek_by_words Row path groups refl refl)
    ∙ branch path (without_prefix (codes "/acts/") path) _ _ _ _
    (λ rest e. let p = after_is (codes "/acts/") path rest e in act_named path rest p (below_word (codes "/acts/") rest p))
    (of_kind kind.Mutation (λ part. refl) (λ rest p part e. rw (p, e) refl) _ _
    (of_kind kind.Parcel (λ part. refl) (λ rest p part e. rw (p, e) refl) _ _
    (of_kind kind.Party (λ part. refl) (λ rest p part e. rw (p, e) refl) _ _
    (of_kind kind.Rrr (λ part. refl) (λ rest p part e. rw (p, e) refl) _ _
    (of_kind kind.Source (λ part. refl) (λ rest p part e. rw (p, e) refl) _ _
    (branch path (without_prefix (codes "/units") path) _ _ None None
    (λ rest e. let p = after_is (codes "/units") path rest e in unit_named path rest p (below_word (codes "/units") rest p))
    refl))))))
  where
    below_word : (w rest : List ℕ) → path ≡ w ++ rest → AreBytes rest
    below_word w rest p = bytes_after w rest (rw p at bytes)

    of_kind : (k : Kind) → ((part : List ℕ) → resource_of_suffix k part ≡ None)
        → ((rest : List ℕ) → path ≡ list_path k ++ rest → (part : List ℕ) → rest ≡ 47 ∷ part → drop (length (list_path k) + 1) path ≡ part)
        → (x : Option Row) (y : Option Resource) → resource_of_match path x ≡ y
        → resource_of_match path (if_matched (without_prefix (list_path k) path) (λ rest. seek 0 (below k) rest) x) ≡ if_matched (without_prefix (list_path k) path) (resource_below_list k) y
    of_kind k others found x y other =
        branch path (without_prefix (list_path k) path) _ _ x y
        (λ rest e. let p = after_is (list_path k) path rest e in kind_named path rest k others (found rest p) (below_word (list_path k) rest p))
        other
