-- Lemmas on the faults of a text, from the results of the reader's steps
use Rattle.std.proofs.Common.{◌≡◌, ◌≢◌, ℕ, ◌+◌, ◌<◌, ◌≤◌, Bool, true, false, List, [], ◌∷◌, length, refl, sym, ap, ◌∙◌, arith, inl, inr, ◌⊎◌, subst, Some, None, ◌==◌, cond, Result, Ok, Err}
use Rattle.std.specs.List.{AllByRecursion}
use Rattle.std.specs.Result.{IfOk, IfErr, MatchResult}
use lib.IntN.{ℤ}
use Rattle.land_shape.specs.declared.faults.ShapeFault.{ShapeFault}
use Rattle.land_shape.specs.declared.faults.ShapeFault.TheVariants.{NotPolygon, Empty, Inner, ZOrM, Number, Range, FewPoints, ManyPoints, NotClosed, NotSimple, AreaTooLarge, NoMemory}
use Rattle.land_shape.specs.Coordinate.{IsCoordinate}
use Rattle.land_shape.specs.FaultTexts.{shape_fault_number}
use Rattle.land_shape.specs.Faults.{SomeOf, HasPoint, HasWord, HasManyWords, IsNotNumber, IsOutOfRange, Locate, AreLocatedAt, HasBodyWhere, ListsPlacesWhere, ListsPlaces, HasFault, IsFirstFault, Denotes}
use Rattle.land_shape.specs.Grammar.{Words, Points, Rings, Polygon, empty, body, IsPolygon}
use Rattle.land_shape.specs.Outline.{IsNear, IsOutline, ring_of, doubled_area}
use Rattle.land_shape.specs.Place.{Place}
use Rattle.land_shape.specs.Reader.{polygon_of}
use Rattle.land_shape.specs.Simple.{IsSimple}
use Rattle.land_shape.specs.Steps.{HasTwoWords, IsPlainList, IsClosed, PlainRing, ReadsPoints, IsClosedOrFault, IsRingOrFault}
use Rattle.land_shape.specs.Tokens.{tokens_of}
use Rattle.land_shape.proofs.PolygonLemmas.{polygon_written}

-- ---- one polygon, one list

pub same_polygon : (text : List ℕ) (p q : Polygon) → IsPolygon text p → IsPolygon text q → p ≡ q
same_polygon text p q hp hq =
    let a = polygon_written (tokens_of text) p hp in let b = polygon_written (tokens_of text) q hq in
    let e : Some p ≡ Some q = sym a ∙ b in cc

same_place : (words : Words) (p q : Place) → Locate words p → Locate words q → p ≡ q
same_place (x ∷ y ∷ []) p q h k =
    let ex : p.x ≡ q.x = number (sym h.0 ∙ k.0) in
    let ey : p.y ≡ q.y = number (sym h.1 ∙ k.1) in
    made ex ey
  where
    number : {a b : ℤ} → Some a ≡ Some b → a ≡ b
    number e = cc

    made : {a b c d : ℤ} → a ≡ b → c ≡ d → (let p : Place = record { x = a; y = c } in p) ≡ (let q : Place = record { x = b; y = d } in q)
    made e f = cc
same_place _ p q h k = absurd h

pub same_list : (points : Points) (ps qs : List Place) → AreLocatedAt points ps → AreLocatedAt points qs → ps ≡ qs
same_list [] [] [] h k = refl
same_list (words ∷ points) (p ∷ ps) (q ∷ qs) h k =
    let e = same_place words p q h.0 k.0 in let f = same_list points ps qs h.1 k.1 in cc
same_list [] [] (q ∷ qs) h k = absurd k
same_list [] (p ∷ ps) qs h k = absurd h
same_list (words ∷ points) [] qs h k = absurd h
same_list (words ∷ points) (p ∷ ps) [] h k = absurd k

-- ---- from listed places to their words

no_long : (points : Points) → AllByRecursion HasTwoWords points → ¬ SomeOf HasManyWords points
no_long [] all h = h
no_long (words ∷ points) all (inl h) = let two = all.0 in omega arith
no_long (words ∷ points) all (inr h) = no_long points all.1 h

numbers_in : (words : Words) (p : Place) → Locate words p → ¬ SomeOf IsNotNumber words
numbers_in (x ∷ y ∷ []) p l (inl h) = let e = l.0 in cc
numbers_in (x ∷ y ∷ []) p l (inr (inl h)) = let e = l.1 in cc
numbers_in (x ∷ y ∷ []) p l (inr (inr h)) = h
numbers_in _ p l h = absurd l

pub all_numbers : (points : Points) (ps : List Place) → AreLocatedAt points ps → ¬ SomeOf (SomeOf IsNotNumber) points
all_numbers [] ps l h = h
all_numbers (words ∷ points) (p ∷ ps) l (inl h) = numbers_in words p l.0 h
all_numbers (words ∷ points) (p ∷ ps) l (inr h) = all_numbers points ps l.1 h
all_numbers (words ∷ points) [] l h = absurd l

near_in : (words : Words) (p : Place) → Locate words p → IsNear p → ¬ SomeOf IsOutOfRange words
near_in (x ∷ y ∷ []) p l n (inl (z, h)) = let e : z ≡ p.x = (let a = l.0 in let b = h.0 in cc) in h.1 (subst IsCoordinate (sym e) n.0)
near_in (x ∷ y ∷ []) p l n (inr (inl (z, h))) = let e : z ≡ p.y = (let a = l.1 in let b = h.0 in cc) in h.1 (subst IsCoordinate (sym e) n.1)
near_in (x ∷ y ∷ []) p l n (inr (inr h)) = h
near_in _ p l n h = absurd l

pub all_near : (points : Points) (ps : List Place) → AreLocatedAt points ps → AllByRecursion IsNear ps → ¬ SomeOf (SomeOf IsOutOfRange) points
all_near [] ps l n h = h
all_near (words ∷ points) (p ∷ ps) l n (inl h) = near_in words p l.0 n.0 h
all_near (words ∷ points) (p ∷ ps) l n (inr h) = all_near points ps l.1 n.1 h
all_near (words ∷ points) [] l n h = absurd l

-- ---- numbers of faults

fault_of : ℕ → ShapeFault
fault_of n =
    cond (n == 110) NotPolygon (cond (n == 111) Empty (cond (n == 112) Inner (cond (n == 113) ZOrM (cond (n == 114) Number (cond (n == 115) Range
    (cond (n == 116) FewPoints (cond (n == 117) ManyPoints (cond (n == 118) NotClosed (cond (n == 119) NotSimple (cond (n == 120) AreaTooLarge NoMemory))))))))))

fault_of-number : (f : ShapeFault) → fault_of (shape_fault_number f) ≡ f
unfolding fault_of
fault_of-number NotPolygon = refl
fault_of-number Empty = refl
fault_of-number Inner = refl
fault_of-number ZOrM = refl
fault_of-number Number = refl
fault_of-number Range = refl
fault_of-number FewPoints = refl
fault_of-number ManyPoints = refl
fault_of-number NotClosed = refl
fault_of-number NotSimple = refl
fault_of-number AreaTooLarge = refl
fault_of-number NoMemory = refl

pub same_fault : (f g : ShapeFault) → shape_fault_number f ≡ shape_fault_number g → f ≡ g
same_fault f g e = sym (fault_of-number f) ∙ ap fault_of e ∙ fault_of-number g

-- no fault below a number holds
abbrev pub NoneBelow : List ℕ → ℕ → Type 0
NoneBelow text n = (other : ShapeFault) → shape_fault_number other < n → ¬ HasFault other text

below_or_at : (m n : ℕ) → m < n + 1 → (m < n) ⊎ (m ≡ n)
below_or_at m n h = grind arith

least_number : (f : ShapeFault) → 110 ≤ shape_fault_number f
least_number NotPolygon = omega arith
least_number _ = omega arith

none_below_110 : (text : List ℕ) → NoneBelow text 110
none_below_110 text other h f = let least = least_number other in absurd (omega arith)

next : (text : List ℕ) (fault : ShapeFault) (n : ℕ) → shape_fault_number fault ≡ n → NoneBelow text n → ¬ HasFault fault text → NoneBelow text (n + 1)
next text fault n is none not_this other below =
    elim (below_or_at (shape_fault_number other) n below) [
      | inl less ↦ none other less
      | inr at ↦ (let same = same_fault other fault (at ∙ sym is) in subst (λ (f : ShapeFault). ¬ HasFault f text) (sym same) not_this)
    ]

-- ---- the faults in order

pub no_polygon : (text : List ℕ) → polygon_of (tokens_of text) ≡ None → IsFirstFault text NotPolygon
no_polygon text e = record {
  holds = λ polygon p. let a = polygon_written (tokens_of text) polygon p in let f : None ≡ Some polygon = sym e ∙ a in cc f;
  none_before = none_below_110 text;
}

a_polygon : (text : List ℕ) (polygon : Polygon) → IsPolygon text polygon → NoneBelow text 111
a_polygon text polygon p = next text NotPolygon 110 refl (none_below_110 text) (λ none. none polygon p)

pub empty_first : (text : List ℕ) → IsPolygon text empty → IsFirstFault text Empty
empty_first text p = record { holds = p; none_before = a_polygon text empty p }

a_body : (text : List ℕ) (tagged : Bool) (rings : Rings) → IsPolygon text (body tagged rings) → NoneBelow text 112
a_body text tagged rings p =
    next text Empty 111 refl (a_polygon text (body tagged rings) p) (λ e. let f = same_polygon text empty (body tagged rings) e p in cc f)

pub inner_first : (text : List ℕ) (tagged : Bool) (rings : Rings) → IsPolygon text (body tagged rings) → 2 ≤ length rings → IsFirstFault text Inner
inner_first text tagged rings p h =
    record { holds = record { tagged = tagged; rings = rings; is_polygon = p; holds = h }; none_before = a_body text tagged rings p }

-- a property of a body holds of the only body
in_body : (text : List ℕ) (P : Bool → Rings → Type 0) (tagged : Bool) (rings : Rings) → IsPolygon text (body tagged rings) → HasBodyWhere text P → P tagged rings
in_body text P tagged rings p i =
    let e = same_polygon text (body i.tagged i.rings) (body tagged rings) i.is_polygon p in
    let t : i.tagged ≡ tagged = cc in let r : i.rings ≡ rings = cc in
    subst (λ (rs : Rings). P tagged rs) r (subst (λ (b : Bool). P b i.rings) t i.holds)

one_ring : (text : List ℕ) (tagged : Bool) (ring : Points) → IsPolygon text (body tagged (ring ∷ [])) → NoneBelow text 113
one_ring text tagged ring p =
    next text Inner 112 refl (a_body text tagged (ring ∷ []) p)
    (λ i. let many = in_body text (λ _ rings. 2 ≤ length rings) tagged (ring ∷ []) p i in omega arith)

pub z_or_m_first : (text : List ℕ) (tagged : Bool) (ring : Points) → IsPolygon text (body tagged (ring ∷ []))
    → (tagged ≡ true) ⊎ SomeOf HasManyWords ring → IsFirstFault text ZOrM
z_or_m_first text tagged ring p h = record {
  holds = record { tagged = tagged; rings = ring ∷ []; is_polygon = p; holds = elim h [ inl t ↦ inl t | inr l ↦ inr (inl l) ] };
  none_before = one_ring text tagged ring p;
}

-- a property of a point in a body of one ring
in_ring : (P : Words → Type 0) (ring : Points) → ¬ SomeOf P ring → ¬ HasPoint P (ring ∷ [])
in_ring P ring none (inl h) = none h
in_ring P ring none (inr h) = h

plain_ring : (text : List ℕ) (ring : Points) → IsPolygon text (body false (ring ∷ [])) → AllByRecursion HasTwoWords ring → NoneBelow text 114
plain_ring text ring p two =
    next text ZOrM 113 refl (one_ring text false ring p)
    (λ i. elim (in_body text (λ tagged rings. (tagged ≡ true) ⊎ HasPoint HasManyWords rings) false (ring ∷ []) p i) [
      | inl t ↦ cc t
      | inr l ↦ in_ring HasManyWords ring (no_long ring two) l
    ])

pub number_first : (text : List ℕ) (ring : Points) → IsPolygon text (body false (ring ∷ [])) → AllByRecursion HasTwoWords ring
    → SomeOf (SomeOf IsNotNumber) ring → IsFirstFault text Number
number_first text ring p two h = record {
  holds = record { tagged = false; rings = ring ∷ []; is_polygon = p; holds = inl h };
  none_before = plain_ring text ring p two;
}

all_are_numbers : (text : List ℕ) (ring : Points) → IsPolygon text (body false (ring ∷ [])) → AllByRecursion HasTwoWords ring
    → ¬ SomeOf (SomeOf IsNotNumber) ring → NoneBelow text 115
all_are_numbers text ring p two none =
    next text Number 114 refl (plain_ring text ring p two)
    (λ i. in_ring (SomeOf IsNotNumber) ring none (in_body text (λ tagged rings. HasWord IsNotNumber rings) false (ring ∷ []) p i))

pub range_first : (text : List ℕ) (ring : Points) → IsPolygon text (body false (ring ∷ [])) → AllByRecursion HasTwoWords ring
    → ¬ SomeOf (SomeOf IsNotNumber) ring → SomeOf (SomeOf IsOutOfRange) ring → IsFirstFault text Range
range_first text ring p two none h = record {
  holds = record { tagged = false; rings = ring ∷ []; is_polygon = p; holds = inl h };
  none_before = all_are_numbers text ring p two none;
}

-- ---- listed places

is_listed : (text : List ℕ) (ps : List Place) → IsPlainList text ps → ListsPlaces text ps
is_listed text ps l = record { tagged = false; points = l.points; is_polygon = l.is_polygon; lists = l.lists }

pub listed_once : (text : List ℕ) (ps qs : List Place) → ListsPlaces text ps → ListsPlaces text qs → ps ≡ qs
listed_once text ps qs k l =
    let e = same_polygon text (body k.tagged (k.points ∷ [])) (body l.tagged (l.points ∷ [])) k.is_polygon l.is_polygon in
    let same : k.points ≡ l.points = cc in
    same_list l.points ps qs (subst (λ (points : Points). AreLocatedAt points ps) same k.lists) l.lists

-- a property of a list of places holds of the only list
in_list : (text : List ℕ) (P : List Place → Type 0) (ps : List Place) → ListsPlaces text ps → ListsPlacesWhere text P → P ps
in_list text P ps l i = subst P (listed_once text i.0 ps i.1.0 l) i.1.1

near_list : (text : List ℕ) (ps : List Place) → IsPlainList text ps → NoneBelow text 116
near_list text ps l =
    next text Range 115 refl (all_are_numbers text l.points l.is_polygon l.two_words (all_numbers l.points ps l.lists))
    (λ i. in_ring (SomeOf IsOutOfRange) l.points (all_near l.points ps l.lists l.near) (in_body text (λ tagged rings. HasWord IsOutOfRange rings) false (l.points ∷ []) l.is_polygon i))

pub few_first : (text : List ℕ) (ps : List Place) → IsPlainList text ps → length ps < 4 → IsFirstFault text FewPoints
few_first text ps l h = record { holds = (ps, (is_listed text ps l, h)); none_before = near_list text ps l }

some_list : (text : List ℕ) (ps : List Place) → IsPlainList text ps → 4 ≤ length ps → NoneBelow text 117
some_list text ps l h =
    next text FewPoints 116 refl (near_list text ps l)
    (λ i. let few = in_list text (λ (qs : List Place). length qs < 4) ps (is_listed text ps l) i in omega arith)

pub many_first : (text : List ℕ) (ps : List Place) → IsPlainList text ps → 201 < length ps → IsFirstFault text ManyPoints
many_first text ps l h = record { holds = (ps, (is_listed text ps l, h)); none_before = some_list text ps l (omega arith) }

short_list : (text : List ℕ) (ps : List Place) → IsPlainList text ps → 4 ≤ length ps → length ps ≤ 201 → NoneBelow text 118
short_list text ps l some few =
    next text ManyPoints 117 refl (some_list text ps l some)
    (λ i. let many = in_list text (λ (qs : List Place). 201 < length qs) ps (is_listed text ps l) i in omega arith)

pub open_first : (text : List ℕ) (ps : List Place) → IsPlainList text ps → 4 ≤ length ps → length ps ≤ 201 → ¬ IsClosed ps → IsFirstFault text NotClosed
open_first text ps l some few h = record { holds = (ps, (is_listed text ps l, h)); none_before = short_list text ps l some few }

-- a list whose last place is its first
pub record IsClosedList (text : List ℕ) (ps : List Place) : Type 0 where
  pub list : IsPlainList text ps
  pub some : 4 ≤ length ps
  pub few : length ps ≤ 201
  pub closed : IsClosed ps

closed_list : (text : List ℕ) (ps : List Place) → IsClosedList text ps → NoneBelow text 119
closed_list text ps c =
    next text NotClosed 118 refl (short_list text ps c.list c.some c.few)
    (λ i. in_list text (λ (qs : List Place). ¬ IsClosed qs) ps (is_listed text ps c.list) i c.closed)

pub not_simple_first : (text : List ℕ) (ps : List Place) → IsClosedList text ps → ¬ IsSimple (ring_of ps) → IsFirstFault text NotSimple
not_simple_first text ps c h = record { holds = (ps, (is_listed text ps c.list, h)); none_before = closed_list text ps c }

simple_list : (text : List ℕ) (ps : List Place) → IsClosedList text ps → IsSimple (ring_of ps) → NoneBelow text 120
simple_list text ps c simple =
    next text NotSimple 119 refl (closed_list text ps c)
    (λ i. in_list text (λ (qs : List Place). ¬ IsSimple (ring_of qs)) ps (is_listed text ps c.list) i simple)

pub too_large_first : (text : List ℕ) (ps : List Place) → IsClosedList text ps → IsSimple (ring_of ps)
    → 1000000000000000000 < doubled_area (ring_of ps) → IsFirstFault text AreaTooLarge
too_large_first text ps c simple h = record { holds = (ps, (is_listed text ps c.list, h)); none_before = simple_list text ps c simple }

none_at_all : (text : List ℕ) (ps : List Place) → IsClosedList text ps → IsSimple (ring_of ps) → doubled_area (ring_of ps) ≤ 1000000000000000000
    → NoneBelow text 121
none_at_all text ps c simple small =
    next text AreaTooLarge 120 refl (simple_list text ps c simple)
    (λ i. let large = in_list text (λ (qs : List Place). 1000000000000000000 < doubled_area (ring_of qs)) ps (is_listed text ps c.list) i in omega arith)

no_fault_left : (text : List ℕ) → NoneBelow text 121 → (fault : ShapeFault) → ¬ HasFault fault text
no_fault_left text none NoMemory h = h
no_fault_left text none NotPolygon h = none NotPolygon (omega arith) h
no_fault_left text none Empty h = none Empty (omega arith) h
no_fault_left text none Inner h = none Inner (omega arith) h
no_fault_left text none ZOrM h = none ZOrM (omega arith) h
no_fault_left text none Number h = none Number (omega arith) h
no_fault_left text none Range h = none Range (omega arith) h
no_fault_left text none FewPoints h = none FewPoints (omega arith) h
no_fault_left text none ManyPoints h = none ManyPoints (omega arith) h
no_fault_left text none NotClosed h = none NotClosed (omega arith) h
no_fault_left text none NotSimple h = none NotSimple (omega arith) h
no_fault_left text none AreaTooLarge h = none AreaTooLarge (omega arith) h

pub simple_stands : (text : List ℕ) (ps : List Place) → IsClosedList text ps → IsSimple (ring_of ps) → doubled_area (ring_of ps) ≤ 1000000000000000000
    → Denotes text (ring_of ps)
simple_stands text ps c simple small = record {
  no_fault = no_fault_left text (none_at_all text ps c simple small);
  places = ps;
  listed = is_listed text ps c.list;
  is_ring = refl;
}

pub stands : (text : List ℕ) (ps ring : List Place) → IsClosedList text ps → ring ≡ ring_of ps → IsOutline ring → Denotes text ring
stands text ps ring c is o =
    let outline : IsOutline (ring_of ps) = subst IsOutline is o in
    record {
      no_fault = no_fault_left text (none_at_all text ps c outline.simple outline.small);
      places = ps;
      listed = is_listed text ps c.list;
      is_ring = is;
    }

-- ---- results of the reader's steps

pub plain_fault : (text : List ℕ) (polygon : Polygon) (fault : ShapeFault) → IsPolygon text polygon → PlainRing polygon (Err fault) → IsFirstFault text fault
plain_fault text polygon Empty p h = empty_first text (subst (IsPolygon text) h p)
plain_fault text polygon Inner p (tagged, rings, h) = inner_first text tagged rings (subst (IsPolygon text) h.0 p) h.1
plain_fault text polygon ZOrM p (tagged, ring, h) = z_or_m_first text tagged ring (subst (IsPolygon text) h.0 p) h.1
plain_fault text polygon _ p h = absurd h

pub listed_fault : (text : List ℕ) (ring : Points) (fault : ShapeFault) → IsPolygon text (body false (ring ∷ [])) → AllByRecursion HasTwoWords ring
    → fault ≢ NoMemory → ReadsPoints ring (Err fault) → IsFirstFault text fault
listed_fault text ring Number p two memory h = number_first text ring p two h
listed_fault text ring Range p two memory h = range_first text ring p two h.0 h.1
listed_fault text ring NoMemory p two memory h = absurd (memory refl)
listed_fault text ring _ p two memory h = absurd h

pub closing_fault : (text : List ℕ) (ps : List Place) (fault : ShapeFault) → IsPlainList text ps → IsClosedOrFault ps (Err fault) → IsFirstFault text fault
closing_fault text ps FewPoints l h = few_first text ps l h
closing_fault text ps ManyPoints l h = many_first text ps l h
closing_fault text ps NotClosed l h = open_first text ps l h.0 h.1 h.2
closing_fault text ps _ l h = absurd h

pub read_closed : (text : List ℕ) (ps : List Place) → IsPlainList text ps → IsClosedOrFault ps (Ok tt) → IsClosedList text ps
read_closed text ps l h = record { list = l; some = h.0; few = h.1; closed = h.2 }

pub enclosed_ring : (text : List ℕ) (ps : List Place) (r : Result (List Place) ShapeFault) → IsClosedList text ps → IsRingOrFault ps r → IfOk r (Denotes text)
enclosed_ring text ps (Ok ring) c h = stands text ps ring c h.0 h.1
enclosed_ring text ps (Err f) c h = tt

pub enclosed_fault : (text : List ℕ) (ps : List Place) (r : Result (List Place) ShapeFault) → IsClosedList text ps → IsRingOrFault ps r
    → IfErr r (λ fault. fault ≢ NoMemory → IsFirstFault text fault)
enclosed_fault text ps (Ok ring) c h = tt
enclosed_fault text ps (Err NotSimple) c h = λ _. not_simple_first text ps c h
enclosed_fault text ps (Err AreaTooLarge) c h = λ _. too_large_first text ps c h.0 h.1
enclosed_fault text ps (Err _) c h = absurd h

pub listed_faults : {T : Type 0} (text : List ℕ) (ring : Points) (P : T → Type 0) (r : Result T ShapeFault) → IsPolygon text (body false (ring ∷ []))
    → AllByRecursion HasTwoWords ring → MatchResult r P (λ fault. ReadsPoints ring (Err fault)) → IfErr r (λ fault. fault ≢ NoMemory → IsFirstFault text fault)
listed_faults text ring P (Ok x) p two h = tt
listed_faults text ring P (Err f) p two h = λ memory. listed_fault text ring f p two memory h
