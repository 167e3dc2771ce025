-- The statements of a role's sight together return what the policy, without mandates, lets the caller see.
use Rattle.std.proofs.Common.{inl, inr, List, [], ◌∷◌, map, sym, subst}
use Rattle.land_keep.proofs.Timelines.{sound_or_nothing}
use Rattle.land_keep.specs.Timeline.{register_at}
use Rattle.land_select.specs.Laws.{AreResultRows, Asked, YieldTogether, SightTextsAreTheRules}
use Rattle.land_select_queries.proofs.Containing.{first, first_or_later, in_nothing, later}
use Rattle.land_select_queries.specs.Joins.Meaning.{TextsSelect}
use Rattle.land_select_queries.specs.Joins.Texts.{selection_text}
use Rattle.land_select_queries.specs.Sights.{AnySelects, selections_of}
use Rattle.land_select_queries.specs.Sights.Laws.{SelectionsAreTheRules}
use Rattle.land_select_queries.specs.declared.sights.selection.Selection.{Selection}
use Rattle.land_tables_history.specs.declared.history.History.{History}
use Rattle.land_tables_history.specs.declared.moment.Moment.{Moment}
use Rattle.land_tables_rows.specs.Writing.History.{HoldsHistory}
use Rattle.sqlite_rules.specs.Lists.{Has}
use Rattle.sqlite_value.specs.Order.{Row}

-- the statements of selections together return the union of the selections
module _ (texts_select : TextsSelect) (it : Asked) (moments : List Moment) (history : History) (holds : HoldsHistory it.db moments history) where
  together : (ss : List Selection) → YieldTogether (map selection_text ss) it (AnySelects ss it.moment history it.caller)
  together [] = record {
    answered = λ text h. absurd (in_nothing text h);
    none_more = λ text h rows answer row has. absurd (in_nothing text h);
    none_missing = λ n w. absurd w;
  }
  together (s ∷ ss) =
      let one = texts_select s it.indexes it.db moments history it.caller it.moment holds in
      let rest = together ss in
      record {
        answered = λ text h. elim (first_or_later (selection_text s) (map selection_text ss) text h) [
          | inl same ↦ subst (λ x. (rows : List Row) × AreResultRows it x rows) same (one.rows, one.answer)
          | inr more ↦ rest.answered text more
        ];
        none_more = λ text h rows answer row has. elim (first_or_later (selection_text s) (map selection_text ss) text h) [
          | inl same ↦
              let are = one.each rows (subst (λ x. AreResultRows it x rows) (sym same) answer) in
              let number = are.each row has in
              (number.0, number.1, inl ((are.meant number.0).0 (subst (Has rows) number.1 has)))
          | inr more ↦ let found = rest.none_more text more rows answer row has in (found.0, found.1, inr found.2)
        ];
        none_missing = λ n w. elim w [
          | inl here ↦ (selection_text s, first (selection_text s) (map selection_text ss), (λ rows answer. ((one.each rows answer).meant n).1 here))
          | inr there ↦ let found = rest.none_missing n there in (found.0, later (selection_text s) (map selection_text ss) found.0 found.1, found.2)
        ];
      }

pub texts_are_rules : TextsSelect → SelectionsAreTheRules → SightTextsAreTheRules
texts_are_rules texts_select are_rules indexes db tl holds sound t moment caller k =
    let it : Asked = record { indexes = indexes; db = db; caller = caller.party; moment = t } in
    let selected = together texts_select it holds.listed holds.history holds.holds (selections_of caller.role k) in
    let same = are_rules (register_at tl t) holds.history t (sound_or_nothing tl t sound) (holds.stands.stands t moment) caller k in
    record {
      answered = selected.answered;
      none_more = λ text h rows answer row has. let found = selected.none_more text h rows answer row has in (found.0, found.1, (same found.0).0 found.2);
      none_missing = λ n w. selected.none_missing n ((same n).1 w);
    }
