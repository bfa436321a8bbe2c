use Rattle.std.proofs.Common.{◌+◌, ◌*◌, ◌++◌, ◌∷◌, [], true, refl, sym, ◌∙◌, ap, subst, arith, length, List, length-append, map}
use Rattle.std.specs.Prelude.{codes, nat_lt}
use Rattle.std.proofs.lemmas.Result.{err_from_is_err_and}
use Rattle.cov_types.specs.declared.var.Var.{Var}
use Rattle.cvd_text.specs.Lines.{Load, no_load, stands}
use Rattle.cvd_text.specs.Pieces.{token, line_end}
use Rattle.cvd_text.specs.Sections.{var_line}
use Rattle.cvd_sections.specs.Fields.{behind_var, bits_of, load_of, var_marks}
use Rattle.cvd_sections.proofs.Counting.{Goes, some_mark, more_left, none_left, starts, one_more, heading_refused, heading_broken, one_refused, ends}
use Rattle.cvd_sections.proofs.Lists.{shorter}
use Rattle.cvd_sections.proofs.VarSection.{section, alike, apart_rows, some_var, bits_of_more}
use Rattle.cvd_sections.proofs.var.read_vars.Goals as goal

pub returns-in_err-count : goal.returns-in_err-count
returns-in_err-count c =
    let p = err_from_is_err_and c.from_residual.result c.from_residual.ensures.1 in
    rw (p.1, p.2) (heading_refused Var Load var_marks behind_var (λ n. no_load) (codes "vars") (λ n. true) section alike some_var c.args.cursor.now _ _
    c.in_err-count.ensures)

pub returns-in_err-end_line : goal.returns-in_err-end_line
returns-in_err-end_line c =
    let a = c.in_ok-count.ensures in
    let p = err_from_is_err_and c.from_residual-in_err-end_line.result c.from_residual-in_err-end_line.ensures.1 in
    rw (p.1, p.2) (heading_broken Var Load var_marks behind_var (λ n. no_load) (codes "vars") (λ n. true) section alike some_var c.args.cursor.now _ _ a.0 _
    a.1.0
    c.in_err-end_line.ensures)

pub loop-count-init : goal.loop-count-init
loop-count-init c =
    let a = c.in_ok-count.ensures in
    record {
      goes = subst (λ l. Goes Var Load var_marks behind_var (λ n. no_load) (codes "vars") (λ n. true) section c.args.cursor.now c.end_line.new.self
          c.in_ok-count.count
          (λ n. load_of 0) l) (sym c.new-vars.ensures)
          (starts Var Load var_marks behind_var (λ n. no_load) (codes "vars") (λ n. true) section c.args.cursor.now c.read_heading.new.cursor
          c.end_line.new.self a.0
          c.in_ok-count.count a.1.1 a.1.0 c.in_ok-end_line.ensures.1.0);
      bits = sym (ap bits_of c.new-vars.ensures);
      within = omega arith;
      few = let none = ap length c.new-vars.ensures in omega arith;
    }

pub returns-in_err-next : goal.returns-in_err-next
returns-in_err-next c =
    let l = c.loop-count in
    let g = l.invariant.goes in
    let less = more_left (length l.vars) g.n (sym c.loop-count-test.true ∙ c.wants_more.ensures g.n g.count ∙ ap (λ k. nat_lt k g.n) c.len.ensures) in
    let p = err_from_is_err_and c.from_residual-in_err-next.result c.from_residual-in_err-next.ensures.1 in
    rw (p.1, p.2) (one_refused Var Load var_marks behind_var (λ n. no_load) (codes "vars") (λ n. true) section alike some_var apart_rows c.args.cursor.now
    l.cursor _
    c.in_ok-count.count (λ n. load_of l.bits) l.vars _ g less c.in_err-next.ensures)

pub loop-count-preserved : goal.loop-count-preserved
loop-count-preserved c =
    let l = c.loop-count in
    let g = l.invariant.goes in
    let less = more_left (length l.vars) g.n (sym c.loop-count-test.true ∙ c.wants_more.ensures g.n g.count ∙ ap (λ k. nat_lt k g.n) c.len.ensures) in
    let r = c.in_ok-next.ensures in
    let pushed = c.in_ok-push.ensures.ok ∙ ap (λ x. l.vars ++ x ∷ []) r.1.1.0 in
    let more = bits_of_more l.vars r.0 in
    let longer = length-append l.vars (r.0 ∷ []) in
    let bits = r.1.1.1 in
    let some = r.1.1.3 in
    record {
      goes = subst (λ (k : List Var). Goes Var Load var_marks behind_var (λ n. no_load) (codes "vars") (λ n. true) section c.args.cursor.now
          c.read_var.new.cursor
          c.in_ok-count.count (λ n. load_of c.in_ok-next.next.1) k) (sym pushed)
          (subst (λ b. Goes Var Load var_marks behind_var (λ n. no_load) (codes "vars") (λ n. true) section c.args.cursor.now c.read_var.new.cursor
          c.in_ok-count.count (λ n. load_of b) (l.vars ++ r.0 ∷ [])) (sym bits)
          (one_more Var Load var_marks behind_var (λ n. no_load) (codes "vars") (λ n. true) section c.args.cursor.now l.cursor c.read_var.new.cursor
          c.in_ok-count.count (λ n. load_of l.bits) l.vars r.0 g less r.1.0));
      bits = bits ∙ ap (λ b. b + r.0.width * r.0.words) l.invariant.bits ∙ sym more ∙ sym (ap bits_of pushed);
      within = r.1.1.2;
      few = let all = ap length pushed in omega (arith, l.invariant.few);
    }

pub loop-count-smaller : goal.loop-count-smaller
loop-count-smaller c =
    let l = c.loop-count in
    let r = c.in_ok-next.ensures in
    shorter (var_marks (load_of l.bits)) r.0 (some_mark (map token (var_line r.0).tokens) (line_end (stands (load_of l.bits) (var_line r.0)))) l.cursor
    c.read_var.new.cursor r.1.0

pub returns : goal.returns
returns c =
    let l = c.loop-count in
    let g = l.invariant.goes in (
      l.vars,
      (
        ends Var Load var_marks behind_var (λ n. no_load) (codes "vars") (λ n. true) section alike some_var c.args.cursor.now l.cursor c.in_ok-count.count
            (λ n. load_of l.bits) l.vars g
            (none_left (length l.vars) g.n (sym c.loop-count-test.false ∙ c.wants_more.ensures g.n g.count ∙ ap (λ k. nat_lt k g.n) c.len.ensures)),
        record { same = refl; bits = l.invariant.bits; within = l.invariant.within; few = l.invariant.few },
      ),
    )
