-- The register at a moment is the only one that the versions represent.
use Rattle.std.proofs.Common.{◌≡◌, ◌∙◌, ℕ, ℤ}
use Rattle.land_core.specs.declared.register.Register.{Register}
use Rattle.land_tables_history.proofs.GroupOrders.{grouped}
use Rattle.land_tables_history.proofs.Orders.{given, granted, mandated}
use Rattle.land_tables_history.specs.Groups.{HaveMembers}
use Rattle.land_tables_history.specs.History.{IsRegisterAt, register_of_history}
use Rattle.land_tables_history.specs.Standing.{current_values}
use Rattle.land_tables_history.specs.declared.history.History.{History}

pub nine : {A B C D E F G H I X : Type 0} (make : A → B → C → D → E → F → G → H → I → X) {a j : A} {b k : B} {c l : C} {d m : D} {e n : E} {f o : F} {g p : G} {h q : H} {i r : I}
    → a ≡ j → b ≡ k → c ≡ l → d ≡ m → e ≡ n → f ≡ o → g ≡ p → h ≡ q → i ≡ r → make a b c d e f g h i ≡ make j k l m n o p q r
nine make a b c d e f g h i = cc

pub through : {X : Type 0} {a c : X} (b : X) → a ≡ b → b ≡ c → a ≡ c
through b x y = x ∙ y

pub stood : (t : ℤ) (history : History) (next : ℕ) (r : Register) → HaveMembers r.members → IsRegisterAt t history r → register_of_history t history next ≡ record r { next = next }
stood t history next r have stands = nine
    (λ parties roles members units parcels rrrs sources mutations mandates. record {
      parties = parties;
      roles = roles;
      members = members;
      units = units;
      parcels = parcels;
      rrrs = rrrs;
      sources = sources;
      mutations = mutations;
      mandates = mandates;
      next = next;
    })
    (given t history.parties r.parties stands.parties) (granted t history.roles r.roles stands.roles) (grouped r.members (current_values t history.members) have stands.members)
    (given t history.units r.units stands.units) (given t history.parcels r.parcels stands.parcels) (given t history.rrrs r.rrrs stands.rrrs)
    (given t history.sources r.sources stands.sources) (given t history.mutations r.mutations stands.mutations) (mandated t history.mandates r.mandates stands.mandates)
