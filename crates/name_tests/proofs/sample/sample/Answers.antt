use Rattle.std.proofs.Common.{◌≡◌, ◌∙◌}
use Rattle.go_tree.specs.Arena.{flat, roots}
use Rattle.name_tests.proofs.SampleLemmas.{sample_tokens, sample_forest, sample_nodes, sample_spelled}
use Rattle.name_tests.proofs.sample.sample.Goals as goal

pub returns-clause-spelled : goal.returns-clause-spelled
returns-clause-spelled c = sample_spelled c.new.result c.new-2.result c.new-3.result tokens nodes tops where
  tokens : c.new.result ≡ sample_tokens
  tokens =
      let t0 = c.token.ensures in
      let t1 = c.token-2.ensures in
      let t2 = c.token-3.ensures in
      let t3 = c.token-4.ensures in
      let t4 = c.token-5.ensures in
      let t5 = c.token-6.ensures in
      let t6 = c.token-7.ensures in
      let t7 = c.token-8.ensures in
      let t8 = c.token-9.ensures in
      let t9 = c.token-10.ensures in
      let items = c.in_ok-tokens.ensures.items in
      let row = c.new.ensures in
      cc

  nodes : c.new-2.result ≡ flat 0 sample_forest
  nodes = c.new-2.ensures ∙ c.in_ok-nodes.ensures.items ∙ sample_nodes _ _ _ _ _ _ _ _ c.in_ok-name.ensures c.in_ok-clause.ensures c.in_ok-path.ensures c.in_ok-import.ensures
      c.in_ok-declared.ensures c.in_ok-used.ensures c.in_ok-defined.ensures c.in_ok-types.ensures

  tops : c.new-3.result ≡ roots 0 sample_forest
  tops =
      let items = c.in_ok-tops.ensures.items in
      let row = c.new-3.ensures in
      cc
