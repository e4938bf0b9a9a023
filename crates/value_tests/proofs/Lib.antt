mod LinkLemmas
