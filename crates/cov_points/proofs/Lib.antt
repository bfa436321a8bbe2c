mod KeyExamples
