use Rattle.go_kit.proofs.kit.GoKitKit.load.Goals as goal

pub returns-clause-right : goal.returns-clause-right
returns-clause-right c = λ lawful. c.in_ok-load.ensures.read lawful.read
